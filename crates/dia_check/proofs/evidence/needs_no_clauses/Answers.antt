use Rattle.std.proofs.Common.{◌≡◌, ◌∙◌, ℕ, true, List, [], ◌∷◌, length, refl, sym, subst, arith}
use Rattle.std.specs.Prelude.{◌==◌}
use Rattle.std.proofs.lemmas.Bool.{eqb-true}
use Rattle.std.proofs.lemmas.Option.{slice_get_within}
use Rattle.clause_pool.specs.Clauses.{Clause}
use Rattle.pair_miter.specs.ChainView.{ChainView}
use Rattle.pair_miter.specs.Log.{IsSpentLog}
use Rattle.evidence_rules.specs.LogRefusal.{IsRightLog}
use Rattle.evidence_rules.specs.declared.refusal.EvidenceKind.{EvidenceKind}
use Rattle.evidence_rules.specs.declared.refusal.EvidenceKind.TheVariants.{Spent}
use Rattle.dia_check.proofs.evidence.needs_no_clauses.Goals as goal

-- An empty log is right over any clauses for a budget of no chains.
no_chains : (kind : EvidenceKind) (limit : ℕ) (log : List ChainView) → kind ≡ Spent → limit ≡ 0 → log ≡ [] → (clauses : List Clause) → IsRightLog kind clauses limit log
no_chains kind limit log spent none empty clauses =
    subst (λ (k : EvidenceKind). IsRightLog k clauses limit log) (sym spent)
    (subst (IsSpentLog clauses limit) (sym empty) (record { ends = []; are = refl; full = sym none; fresh = λ at chain end c e. absurd (let h = slice_get_within [] at chain c in omega (arith, h)) }))

none_long : (log : List ChainView) → (length log == 0) ≡ true → log ≡ []
none_long [] e = refl
none_long (chain ∷ log) e = absurd (let h : length (chain ∷ log) ≡ 0 = eqb-true (length (chain ∷ log)) 0 e in omega (arith, h))

pub returns-in-Spent : goal.returns-in-Spent
returns-in-Spent c = λ empty.
    let some : (length c.as_slice.result.now == 0) ≡ true = sym c.is_empty.ensures ∙ empty in
    no_chains c.args.kind c.args.conflicts c.args.log.now c.in-Spent.is (omega arith) (sym c.as_slice.ensures ∙ none_long c.as_slice.result.now some)
