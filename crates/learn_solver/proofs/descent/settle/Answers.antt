use Rattle.std.proofs.Common.{length, ap, arith}
use Rattle.std.proofs.lemmas.List.{length-append}
use Rattle.learn_solver.proofs.Ready.{ready_propagated, found_at}
use Rattle.learn_solver.proofs.descent.settle.Goals as goal

pub returns-clause-ready : goal.returns-clause-ready
returns-clause-ready c =
    let e = c.propagate.ensures in
    ready_propagated c.args.trail.now c.propagate.new.self c.args.pool.now.clauses c.requires e.assignment e.attached e.fits e.trail

pub returns-clause-grows : goal.returns-clause-grows
returns-clause-grows c =
    let e = c.propagate.ensures in
    record {
      variables = e.assignment.variables;
      longer = omega (arith, ap length e.assignment.added, length-append c.args.trail.now.assignment.literals e.assignment.more);
      few = e.trail.few;
    }

pub returns-clause-found : goal.returns-clause-found
returns-clause-found c =
    let e = c.propagate.ensures in
    found_at c.propagate.new.self c.args.pool.now.clauses c.propagate.result
    (ready_propagated c.args.trail.now c.propagate.new.self c.args.pool.now.clauses c.requires e.assignment e.attached e.fits e.trail) e.found
