-- The invariant of the solver, and where a descent ends.
use Rattle.std.specs.Prelude.{◌≡◌, ℕ, ◌<◌, ◌≤◌, List, length, All, Contains, Some}
use Rattle.clause_pool.specs.Clauses.{Clause, numbered_clause}
use Rattle.clause_pool.specs.Partial.{IsQuiet}
use Rattle.solver_trail.specs.declared.set_literals.SetLiteral.{SetLiteral}
use Rattle.solver_trail.specs.declared.trail.Propagated.{Propagated}
use Rattle.solver_trail.specs.declared.trail.Propagated.TheVariants.{Quiet, Conflict}
use Rattle.solver_trail.specs.Assignment.{Assignment, IsTrail, assigned_literals}
use Rattle.solver_trail.specs.Trail.{TrailState, Fits, IsFalseClause, attached_numbers}
use Rattle.learn_solver.specs.Places.{up_to}

-- At each level below the present one, unit propagation has nothing to do at any clause.
abbrev pub AreQuietBelow : Assignment → List Clause → Type 0
AreQuietBelow a clauses = (level : ℕ) → level < a.level → All (IsQuiet (up_to a.literals level)) clauses

-- The trail fits the clauses and is well formed, all clauses are attached, and at each level below the present one
-- unit propagation has nothing to do at any of them.
pub record IsSolverReady (trail : TrailState) (clauses : List Clause) : Type 0 where
  pub fits : Fits trail clauses
  pub is_trail : IsTrail trail.assignment
  pub attached : (number : ℕ) → 0 < number → number ≤ length clauses → Contains (attached_numbers trail) number
  pub quiet : AreQuietBelow trail.assignment clauses

-- A literal of the variable is set.
abbrev pub IsSet : Assignment → ℕ → Type 0
IsSet a variable = (s : SetLiteral) × Contains a.literals s × (s.literal.variable ≡ variable)

-- The clause has this number, and all its literals are false.
pub record IsConflictClause (trail : TrailState) (clauses : List Clause) (number : ℕ) : Type 0 where
  pub from : 0 < number
  pub below : number ≤ length clauses
  pub clause : Clause
  pub numbered : numbered_clause clauses number ≡ Some clause
  pub false_clause : IsFalseClause (assigned_literals trail.assignment) clause

-- Either unit propagation has nothing to do at any clause and all variables are set, or the clause of this number is
-- false.
abbrev pub IsDescentEnd : TrailState → List Clause → Propagated → Type 0
IsDescentEnd trail clauses Quiet = All (IsQuiet (assigned_literals trail.assignment)) clauses × ((x : ℕ) → 0 < x → x ≤ trail.assignment.variables → IsSet trail.assignment x)
IsDescentEnd trail clauses (Conflict number) = IsConflictClause trail clauses number
