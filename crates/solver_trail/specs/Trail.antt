-- What contracts see of a trail, and how it fits the clauses of a pool.
use Rattle.std.specs.Prelude.{◌≡◌, ◌≢◌, ◌⊎◌, ℕ, ◌*◌, ◌<◌, ◌≤◌, List, [], ◌++◌, take, length, All, Contains, Some, slice_index_or}
use Rattle.clause_pool.specs.Literal.{Literal, opposite}
use Rattle.clause_pool.specs.Clauses.{Clause, numbered_clause}
use Rattle.clause_pool.specs.Partial.{IsQuiet}
use Rattle.clause_pool.specs.Proper.{IsProper}
use Rattle.solver_trail.specs.declared.set_literals.SetLiteral.{SetLiteral}
use Rattle.solver_trail.specs.declared.trail.Propagated.{Propagated}
use Rattle.solver_trail.specs.declared.trail.Propagated.TheVariants.{Quiet, Conflict}
use Rattle.solver_trail.specs.Assignment.{Assignment, assigned_literals, literals_of}
use Rattle.solver_trail.specs.Watches.{AreWatching}

-- The set literals; the numbers of the attached clauses of fewer than two literals, and of the others, each in the
-- order of attaching; and the literals that the others watch, two for each.
pub record TrailState : Type 0 where
  pub assignment : Assignment
  pub short : List ℕ
  pub long : List ℕ
  pub watched : List Literal

-- The trail of variables 1 to this number, at level 0, with nothing set or attached.
abbrev pub empty_trail : ℕ → TrailState
empty_trail variables =
    record { assignment = record { variables = variables; literals = []; level = 0 }; short = []; long = []; watched = [] }

-- The numbers of the attached clauses.
abbrev pub attached_numbers : TrailState → List ℕ
attached_numbers trail = trail.short ++ trail.long

-- The attached numbers are the old ones and this one.
pub record Attaches (old new : List ℕ) (number : ℕ) : Type 0 where
  pub added : Contains new number
  pub kept : (n : ℕ) → Contains old n → Contains new n
  pub no_other : (n : ℕ) → Contains new n → Contains old n ⊎ (n ≡ number)

-- Each attached number is of a clause in the pool, and this clause is proper.
pub record AreAttached (variables : ℕ) (attached : List ℕ) (clauses : List Clause) : Type 0 where
  pub numbered : All (λ number. (0 < number) × (number ≤ length clauses)) attached
  pub proper : (number : ℕ) (clause : Clause) → Contains attached number → numbered_clause clauses number ≡ Some clause
      → IsProper variables clause

-- The clause holds the literal, and its other literals are false by the literals set before.
pub record IsReason (before : List Literal) (clause : Clause) (l : Literal) : Type 0 where
  pub inside : Contains clause l
  pub others : (m : Literal) → Contains clause m → m ≢ l → Contains before (opposite m)

-- Each reason is an attached clause that holds its literal, and the clause's other literals became false before that
-- literal was set.
pub record AreReasons (attached : List ℕ) (clauses : List Clause) (literals : List SetLiteral) : Type 0 where
  pub is_attached : (k : ℕ) (d : SetLiteral) (number : ℕ) → k < length literals → (slice_index_or literals k d).reason ≡ Some number
      → Contains attached number
  pub is_reason : (k : ℕ) (d : SetLiteral) (number : ℕ) (clause : Clause) → k < length literals
      → (slice_index_or literals k d).reason ≡ Some number → numbered_clause clauses number ≡ Some clause
      → IsReason (take k (literals_of literals)) clause (slice_index_or literals k d).literal

-- The clauses of these numbers have fewer than two literals.
abbrev pub AreShort : List ℕ → List Clause → Type 0
AreShort numbers clauses = (number : ℕ) (clause : Clause) → Contains numbers number → numbered_clause clauses number ≡ Some clause
    → length clause < 2

-- The trail fits the clauses of a pool: the attached numbers are of clauses of the pool, which are proper; each
-- reason is an attached clause whose other literals were false before; the short ones have fewer than two literals;
-- and two literals of each other attached clause are watched.
pub record Fits (trail : TrailState) (clauses : List Clause) : Type 0 where
  pub attached : AreAttached trail.assignment.variables (attached_numbers trail) clauses
  pub reasons : AreReasons (attached_numbers trail) clauses trail.assignment.literals
  pub short : AreShort trail.short clauses
  pub size : length trail.watched ≡ 2 * length trail.long
  pub watching : AreWatching trail.long clauses trail.watched

-- All literals of the clause are false.
abbrev pub IsFalseClause : List Literal → Clause → Type 0
IsFalseClause assigned_literals clause = All (λ (l : Literal). Contains assigned_literals (opposite l)) clause

-- What propagation ends with: unit propagation has nothing to do at any attached clause, since each has a true
-- literal or two unset ones, or the clause of this number is attached and all its literals are false.
abbrev pub IsPropagated : TrailState → List Clause → Propagated → Type 0
IsPropagated trail clauses Quiet = (number : ℕ) (clause : Clause) → Contains (attached_numbers trail) number
    → numbered_clause clauses number ≡ Some clause → IsQuiet (assigned_literals trail.assignment) clause
IsPropagated trail clauses (Conflict number) =
    Contains (attached_numbers trail) number
    × ((clause : Clause) → numbered_clause clauses number ≡ Some clause → IsFalseClause (assigned_literals trail.assignment) clause)

-- The variable is set, and `P` holds of its set literal.
abbrev pub HasLiteral : Assignment → ℕ → (SetLiteral → Type 0) → Type 0
HasLiteral a variable P = (s : SetLiteral) × Contains a.literals s × (s.literal.variable ≡ variable) × P s
