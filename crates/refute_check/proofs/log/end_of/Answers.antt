use Rattle.std.proofs.Common.{◌≡◌, ◌∙◌, refl, sym, ap, subst}
use Rattle.std.specs.Prelude.{Result, Err}
use Rattle.refute_check.specs.declared.clause.Clause.{Clause}
use Rattle.evidence_rules.specs.declared.refusal.Refusal.{Refusal}
use Rattle.evidence_rules.specs.declared.refusal.CheckFault.{CheckFault}
use Rattle.evidence_rules.specs.declared.refusal.CheckFault.TheVariants.{Refused}
use Rattle.evidence_rules.specs.declared.refusal.RefusalKind.TheVariants.{NoSuchClause, NoPivot}
use Rattle.evidence_rules.specs.LogRefusal.{ChainStops}
use Rattle.refute_check.proofs.log.end_of.Goals as goal

pub returns-in-Err-NoSuchClause-clause-refused : goal.returns-in-Err-NoSuchClause-clause-refused
returns-in-Err-NoSuchClause-clause-refused c refusal e =
    let same : record { kind = NoSuchClause; step = c.args.at } ≡ refusal = (let w : ◌≡◌ {A = Result Clause CheckFault} (Err (Refused (record { kind = NoSuchClause; step = c.args.at }))) (Err (Refused refusal)) = sym (ap Err c.refused.ensures) ∙ e in cc) in
    subst (λ (r : Refusal). (r.step ≡ c.args.at) × ChainStops c.args.pool.now.clauses c.args.chain.now r.kind) same (refl, c.in-Err-NoSuchClause.ensures.no_clause (ap Err c.in-Err-NoSuchClause.field-0-is))

pub returns-in-Err-NoPivot-clause-refused : goal.returns-in-Err-NoPivot-clause-refused
returns-in-Err-NoPivot-clause-refused c refusal e =
    let same : record { kind = NoPivot; step = c.args.at } ≡ refusal = (let w : ◌≡◌ {A = Result Clause CheckFault} (Err (Refused (record { kind = NoPivot; step = c.args.at }))) (Err (Refused refusal)) = sym (ap Err c.refused-in-Err-NoPivot.ensures) ∙ e in cc) in
    subst (λ (r : Refusal). (r.step ≡ c.args.at) × ChainStops c.args.pool.now.clauses c.args.chain.now r.kind) same (refl, c.in-Err-NoPivot.ensures.no_pivot (ap Err c.in-Err-NoPivot.field-0-is))
