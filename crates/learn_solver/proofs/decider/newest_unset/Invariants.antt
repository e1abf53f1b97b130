use Rattle.std.proofs.Common.{◌≤◌}
use Rattle.learn_solver.proofs.decider.newest_unset.Given as goal

abbrev pub invariant-loop-seen : goal.invariant-loop-seen
invariant-loop-seen l = l.variable ≤ l.queue
