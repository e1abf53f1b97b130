use Rattle.std.proofs.Common.{◌≡◌, ◌∙◌, ◌+◌, ◌<◌, ℕ, List, ◌∷◌, drop, get_or, length, refl, sym, ap, subst}
use Rattle.std.proofs.lemmas.List.{drop_more}
use Rattle.clause_pool.specs.Clauses.{Clause, Clauses}
use Rattle.pair_miter.proofs.AddSteps.{Remains, remains_all, step, step_fails, writes_err}
use Rattle.pair_miter.proofs.rows.write_clauses.Goals as goal

-- what remains begins with the next clause
remains_next : (old now : Clauses) (all : List Clause) (i : ℕ) (clause : Clause) → i < length all → clause ≡ get_or all i clause → Remains old now all (drop i all) → Remains old now all (clause ∷ drop (i + 1) all)
remains_next old now all i clause h is remains = subst (Remains old now all) (drop_more all i clause h ∙ ap (λ (k : Clause). k ∷ drop (i + 1) all) (sym is)) remains

pub loop-clause-init : goal.loop-clause-init
loop-clause-init g c = record { same = refl; remains = remains_all c.args.pool.now c.args.clauses.now }

pub returns-in_err-write-clause-written : goal.returns-in_err-write-clause-written
returns-in_err-write-clause-written g c =
    let next = remains_next c.args.pool.now c.loop-clause.pool c.args.clauses.now c.loop-clause.clause-index c.clause-item.result c.loop-clause-test.true c.clause-item.is c.loop-clause.invariant.remains in
    writes_err c.from_residual.result c.from_residual.ensures.0 (step_fails next refl c.in_err-write.ensures.written)

pub loop-clause-preserved : goal.loop-clause-preserved
loop-clause-preserved g c =
    let next = remains_next c.args.pool.now c.loop-clause.pool c.args.clauses.now c.loop-clause.clause-index c.clause-item.result c.loop-clause-test.true c.clause-item.is c.loop-clause.invariant.remains in
    record { same = c.in_ok-write.ensures.variables ∙ c.loop-clause.invariant.same; remains = step next refl c.in_ok-write.ensures.written }
