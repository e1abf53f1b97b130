use Rattle.std.proofs.Common.{◌≡◌}
use Rattle.solver_trail.specs.Trail.{Fits}
use Rattle.tests_evidence.proofs.tests.trails.attach_all.Given as goal

abbrev pub invariant-loop-before : goal.invariant-loop-before
invariant-loop-before l = record {
  fits : Fits l.trail l.pool.clauses;
  same : l.trail.assignment ≡ l.initial.trail.assignment;
}
