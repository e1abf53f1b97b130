-- What a descent does to the trail, and where it ends.
use Rattle.std.specs.Prelude.{◌≡◌, ℕ, ◌+◌, ◌≤◌, List, length, All}
use Rattle.clause_pool.specs.Clauses.{Clause}
use Rattle.clause_pool.specs.Partial.{IsQuiet}
use Rattle.solver_trail.specs.declared.trail.Propagated.{Propagated}
use Rattle.solver_trail.specs.declared.trail.Propagated.TheVariants.{Quiet, Conflict}
use Rattle.solver_trail.specs.Assignment.{Assignment, assigned_literals}
use Rattle.solver_trail.specs.Trail.{TrailState}
use Rattle.learn_solver.specs.Ready.{IsConflictClause}

-- Either unit propagation has nothing to do at any clause, or the clause of this number is false.
abbrev pub IsFoundAt : TrailState → List Clause → Propagated → Type 0
IsFoundAt trail clauses Quiet = All (IsQuiet (assigned_literals trail.assignment)) clauses
IsFoundAt trail clauses (Conflict number) = IsConflictClause trail clauses number

-- At least `more` literals more are set, of the same variables, and no more literals are set than there are variables.
pub record GrowsBy (old new : Assignment) (more : ℕ) : Type 0 where
  pub variables : new.variables ≡ old.variables
  pub longer : length old.literals + more ≤ length new.literals
  pub few : length new.literals ≤ new.variables
