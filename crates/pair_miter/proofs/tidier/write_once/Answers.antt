use Rattle.std.proofs.Common.{◌∙◌, [], ◌∷◌, ap, sym, subst}
use Rattle.clause_pool.specs.Clauses.{Clause}
use Rattle.pair_miter.specs.Adds.{Adds, WritesClauses}
use Rattle.pair_miter.specs.Miter.{tidy}
use Rattle.pair_miter.proofs.AddSteps.{adds_none, keeps_all, writes_err}
use Rattle.pair_miter.proofs.TidyParts.{tidy_opposites, tidy_kept}
use Rattle.pair_miter.proofs.tidier.write_once.Goals as goal

pub returns-then-tautology-clause-written : goal.returns-then-tautology-clause-written
returns-then-tautology-clause-written c =
    let pool = c.args.pool.now in
    subst (Adds pool pool) (sym (tidy_opposites c.args.clause.now (sym c.if-tautology.ensures.opposites))) (adds_none pool)

pub returns-else-tautology-clause-written : goal.returns-else-tautology-clause-written
returns-else-tautology-clause-written c =
    let kept = c.as_slice.ensures.value ∙ c.if-tautology.ensures.kept in
    let tidied = ap (λ (d : Clause). d ∷ []) kept ∙ sym (tidy_kept c.args.clause.now (sym c.if-tautology.ensures.opposites)) in
    subst (WritesClauses c.push.result c.args.pool.now c.push.new.pool) tidied c.push.ensures.written

pub returns-in_err-reserve-clause-written : goal.returns-in_err-reserve-clause-written
returns-in_err-reserve-clause-written c =
    writes_err c.from_residual.result c.from_residual.ensures.0 (keeps_all c.args.pool.now (tidy (c.args.clause.now ∷ [])))
