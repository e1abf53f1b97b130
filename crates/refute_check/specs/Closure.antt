-- What unit propagation over a list of clauses adds to an assignment while one literal stays undetermined.
use Rattle.std.specs.Prelude.{◌≡◌, ◌≢◌, Bool, List, All, Contains, Option, length}
use Rattle.clause_pool.specs.Literal.{Literal, opposite}
use Rattle.clause_pool.specs.Clauses.{Clause}
use Rattle.clause_pool.specs.Partial.{IsConsistent, IsUndetermined, IsQuiet}
use Rattle.refute_check.specs.Held.{IsTrueAt, IsLiteralFalse, IsLiteralOpen}

-- The consistent set of literals holds the opposites of the clause's other literals and leaves `at` undetermined.
pub record HoldsOthers (clause : Clause) (at : Literal) (held : List Literal) : Type 0 where
  pub consistent : IsConsistent held
  pub others : (l : Literal) → Contains clause l → l ≢ at → Contains held (opposite l)
  pub undetermined : IsUndetermined held at

-- The true literals are exactly the opposites of the clause's other literals, and `at` is open.
pub record AssumesOthers (clause : Clause) (at : Literal) (values : List (Option Bool)) : Type 0 where
  pub at_open : IsLiteralOpen values at
  pub others : (l : Literal) → Contains clause l → l ≢ at → IsLiteralFalse values l
  pub no_more : (l : Literal) → IsTrueAt values l → Contains clause (opposite l) × (opposite l ≢ at)

-- The consistent set of literals holds all true ones and leaves `at` undetermined, and unit propagation has nothing
-- to do at any clause.
pub record IsClosure (clauses : List Clause) (at : Literal) (values : List (Option Bool)) (held : List Literal) : Type 0 where
  pub consistent : IsConsistent held
  pub undetermined : IsUndetermined held at
  pub quiet : All (IsQuiet held) clauses
  pub within : (l : Literal) → IsTrueAt values l → Contains held l

-- The literals that were true still are, and perhaps more; each set that closes the earlier ones closes these, too.
-- `at` is open, and the variables are the same.
pub record IsStep (clauses : List Clause) (at : Literal) (before after : List (Option Bool)) : Type 0 where
  pub size : length after ≡ length before
  pub at_open : IsLiteralOpen after at
  pub kept : (l : Literal) → IsTrueAt before l → IsTrueAt after l
  pub closes : (held : List Literal) → IsClosure clauses at before held → IsClosure clauses at after held
