use Rattle.std.proofs.Common.{◌≡◌, ◌+◌, ap, sym, subst}
use Rattle.solver_trail.specs.Assignment.{Assignment}
use Rattle.clause_pool.specs.Proper.{IsProper}
use Rattle.learn_solver.proofs.Attaching.{attaching_more}
use Rattle.clause_pool.proofs.Numbered.{all_at_number}
use Rattle.learn_solver.proofs.search.attach_all.Goals as goal

pub attach-requires-clause-proper : goal.attach-requires-clause-proper
attach-requires-clause-proper c = λ clause is.
    let clauses = c.args.pool.now.clauses in
    let same : c.loop-at.trail.assignment.variables ≡ c.args.variables = ap (λ (a : Assignment). a.variables) c.loop-at.invariant.same in
    subst (λ n. IsProper n clause) (sym same)
    (all_at_number (IsProper c.args.variables) clauses (c.loop-at.at + 1) clause c.requires is)

pub loop-at-preserved : goal.loop-at-preserved
loop-at-preserved c =
    let e = c.attach.ensures in
    attaching_more c.loop-at.trail c.attach.new.self c.args.pool.now.clauses c.args.variables c.loop-at.at c.loop-at.invariant c.in_ok-attach.ensures.attached e.assignment e.fits e.trail
