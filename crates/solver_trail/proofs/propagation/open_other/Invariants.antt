use Rattle.std.proofs.Common.{◌≢◌, ℕ, ◌<◌, get_or}
use Rattle.std.specs.Prelude.{Contains}
use Rattle.clause_pool.specs.Literal.{Literal, opposite}
use Rattle.solver_trail.specs.Assignment.{assigned_literals}
use Rattle.solver_trail.proofs.propagation.open_other.Given as goal

abbrev pub invariant-loop-lit : goal.invariant-loop-lit
invariant-loop-lit l = (j : ℕ) (d : Literal) → j < l.lit-index → get_or l.clause j d ≢ l.other → Contains (assigned_literals l.set) (opposite (get_or l.clause j d))
