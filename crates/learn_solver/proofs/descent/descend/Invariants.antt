use Rattle.std.proofs.Common.{◌≡◌, ◌≤◌, ◌-◌, length}
use Rattle.learn_solver.specs.Descent.{IsFoundAt}
use Rattle.learn_solver.specs.Ready.{IsSolverReady}
use Rattle.learn_solver.proofs.descent.descend.Given as goal

abbrev pub invariant-down : goal.invariant-down
invariant-down l = record {
  ready : IsSolverReady l.trail l.pool.clauses;
  variables : l.trail.assignment.variables ≡ l.initial.trail.assignment.variables;
  decider : l.decider ≡ l.initial.decider;
  found : IsFoundAt l.trail l.pool.clauses l.found;
  few : length l.trail.assignment.literals ≤ l.trail.assignment.variables;
}

abbrev pub decreases-down : goal.decreases-down
decreases-down l = l.trail.assignment.variables - length l.trail.assignment.literals
