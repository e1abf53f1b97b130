-- Clauses stay quiet below the present level.
use Rattle.std.proofs.Common.{◌≡◌, ◌∙◌, ℕ, ◌+◌, ◌<◌, ◌≤◌, List, [], ◌∷◌, ◌++◌, length, None, sym, ap, subst, arith, inl, inr}
use Rattle.std.specs.Prelude.{All}
use Rattle.std.proofs.lemmas.Bool.{cases_lt}
use Rattle.std.proofs.lemmas.List.Elements.{All-cons, All-nil}
use Rattle.clause_pool.specs.Literal.{Literal}
use Rattle.clause_pool.specs.Clauses.{Clause}
use Rattle.clause_pool.specs.Partial.{IsQuiet}
use Rattle.solver_trail.specs.declared.set_literals.SetLiteral.{SetLiteral}
use Rattle.solver_trail.specs.Assignment.{Assignment, IsTrail, Propagates, CutsAbove, assigned_literals}
use Rattle.learn_solver.specs.Places.{up_to}
use Rattle.learn_solver.specs.Ready.{AreQuietBelow}
use Rattle.learn_solver.proofs.UpTo.{up_to_more, up_to_all, up_to_cut}
use Rattle.learn_solver.proofs.Levels.{all_levels}

pub quiet_decided : (a b : Assignment) (clauses : List Clause) (l : Literal) → IsTrail a → AreQuietBelow a clauses → All (IsQuiet (assigned_literals a)) clauses
    → b.literals ≡ a.literals ++ record { literal = l; level = a.level + 1; reason = None } ∷ [] → b.level ≡ a.level + 1 → AreQuietBelow b clauses
quiet_decided a b clauses l trail quiet now more level_is = λ level h.
    let s : SetLiteral = record { literal = l; level = a.level + 1; reason = None } in
    let above : level < a.level + 1 = omega arith in
    let same = ap (λ ls. up_to ls level) more ∙ up_to_more a.literals (s ∷ []) level (All-cons (λ (s : SetLiteral). level < s.level) s [] above (All-nil (λ (s : SetLiteral). level < s.level))) in
    elim (cases_lt level a.level) [
      | inl less ↦ subst (λ ls. All (IsQuiet ls) clauses) (sym same) (quiet level less)
      | inr le ↦
          let all : All (λ (s : SetLiteral). s.level ≤ level) a.literals = λ k d within. omega (arith, all_levels a trail k d within, le) in
          subst (λ ls. All (IsQuiet ls) clauses) (sym (same ∙ up_to_all a.literals level all)) now
    ]

pub quiet_propagated : (a b : Assignment) (clauses : List Clause) → Propagates a b → AreQuietBelow a clauses → AreQuietBelow b clauses
quiet_propagated a b clauses p quiet = λ level h.
    let less : level < a.level = omega (arith, h, p.level) in
    let above : All (λ (s : SetLiteral). level < s.level) p.more = λ k d within. omega (arith, (p.at_level k d within).0, less) in
    let same = ap (λ ls. up_to ls level) p.added ∙ up_to_more a.literals p.more level above in
    subst (λ ls. All (IsQuiet ls) clauses) (sym same) (quiet level less)

-- below the back-jump level nothing changes
pub cut_up_to : (a b : Assignment) (back level : ℕ) → CutsAbove a b back → level ≤ back → up_to a.literals level ≡ up_to b.literals level
cut_up_to a b back level cuts le = up_to_cut a.literals b.literals (length b.literals) level cuts.prefix (λ k d within. omega (arith, cuts.cut k d within, le))

pub quiet_cut : (a b : Assignment) (clauses : List Clause) (back : ℕ) → back ≤ a.level → CutsAbove a b back → AreQuietBelow a clauses → AreQuietBelow b clauses
quiet_cut a b clauses back le cuts quiet = λ level h.
    let less : level < back = omega (arith, h, cuts.present) in
    subst (λ ls. All (IsQuiet ls) clauses) (cut_up_to a b back level cuts (omega arith)) (quiet level (omega arith))
