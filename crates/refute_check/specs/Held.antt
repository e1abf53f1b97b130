-- Literals that an assignment of variables holds, and what unit propagation finds at a clause.
use Rattle.std.specs.Prelude.{◌≡◌, Bool, true, false, List, All, Contains, Option, None, Some, option_map, slice_index_or, length, ◌<◌}
use Rattle.std.specs.Bool.{beq}
use Rattle.std.specs.List.{HoldsAt}
use Rattle.clause_pool.specs.Literal.{Literal}
use Rattle.clause_pool.specs.Clauses.{Clause}
use Rattle.refute_check.specs.declared.assignment.Look.{Look}
use Rattle.refute_check.specs.declared.assignment.Look.TheVariants.{Quiet, Unit, False}

-- Whether the literal is true or false, or none if its variable has no value.
abbrev pub value_at : List (Option Bool) → Literal → Option Bool
value_at values l = option_map (λ bit. beq bit l.positive) (slice_index_or values l.variable None)

-- The literal is true.
abbrev pub IsTrueAt : List (Option Bool) → Literal → Type 0
IsTrueAt values l = value_at values l ≡ Some true

-- The literal is false.
abbrev pub IsLiteralFalse : List (Option Bool) → Literal → Type 0
IsLiteralFalse values l = value_at values l ≡ Some false

-- The literal is undetermined.
abbrev pub IsLiteralOpen : List (Option Bool) → Literal → Type 0
IsLiteralOpen values l = value_at values l ≡ None

-- One literal of the clause is true, or two different ones are open.
pub data IsQuietAt (values : List (Option Bool)) (clause : Clause) : Type 0 where
  satisfied : (l : Literal) → Contains clause l → IsTrueAt values l → IsQuietAt values clause
  two_open : (l m : Literal) → (l ≡ m → ⊥) → Contains clause l → Contains clause m → IsLiteralOpen values l → IsLiteralOpen values m → IsQuietAt values clause

-- One literal of the clause is open, and all others are false.
pub record IsUnitAt (values : List (Option Bool)) (clause : Clause) (unit : Literal) : Type 0 where
  pub inside : Contains clause unit
  pub is_open : IsLiteralOpen values unit
  pub others : (l : Literal) → Contains clause l → (l ≡ unit → ⊥) → IsLiteralFalse values l

-- What is found at the clause: it is quiet, or the literal at this place is open and all others are false, or all are
-- false.
abbrev pub IsLook : List (Option Bool) → Clause → Look → Type 0
IsLook values clause Quiet = IsQuietAt values clause
IsLook values clause (Unit place) = (place < length clause) × HoldsAt (IsUnitAt values clause) clause place
IsLook values clause False = All (IsLiteralFalse values) clause
