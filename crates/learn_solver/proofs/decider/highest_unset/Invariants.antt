use Rattle.std.proofs.Common.{◌≤◌}
use Rattle.learn_solver.proofs.decider.highest_unset.Given as goal

abbrev pub invariant-loop-variable : goal.invariant-loop-variable
invariant-loop-variable l = l.variable ≤ l.from

abbrev pub decreases-loop-variable : goal.decreases-loop-variable
decreases-loop-variable l = l.variable
