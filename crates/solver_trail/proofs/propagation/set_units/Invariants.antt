use Rattle.std.proofs.Common.{◌≡◌, ◌<◌, ℕ, get_or}
use Rattle.std.specs.Prelude.{Some}
use Rattle.clause_pool.specs.Clauses.{Clause, numbered_clause}
use Rattle.clause_pool.specs.Partial.{IsSatisfied}
use Rattle.solver_trail.specs.Assignment.{IsTrail, Propagates, assigned_literals}
use Rattle.solver_trail.specs.Trail.{AreReasons}
use Rattle.solver_trail.proofs.propagation.set_units.Given as goal
use Rattle.solver_trail.specs.Propagation.{numbers_attached}

abbrev pub invariant-loop-number : goal.invariant-loop-number
invariant-loop-number l = record {
  step : Propagates l.initial.set l.set;
  trail : IsTrail l.set;
  reasons : AreReasons (numbers_attached l.attached) l.pool.clauses l.set.literals;
  units : (j : ℕ) (clause : Clause) → j < l.number-index → numbered_clause l.pool.clauses (get_or l.attached.short.items j 0) ≡ Some clause
      → IsSatisfied (assigned_literals l.set) clause;
}
