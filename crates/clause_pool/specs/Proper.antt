-- Clauses over variables that are numbered from 1.
use Rattle.std.specs.Prelude.{◌≢◌, ℕ, ◌<◌, ◌≤◌, All, AllPairs}
use Rattle.clause_pool.specs.Literal.{Literal}
use Rattle.clause_pool.specs.Clauses.{Clause}

-- The number is one of the variables 1 to `variables`.
abbrev pub IsVariable : ℕ → ℕ → Type 0
IsVariable variables x = (0 < x) × (x ≤ variables)

-- Each variable of the clause is one of 1 to `variables`.
abbrev pub HasVariablesUpTo : ℕ → Clause → Type 0
HasVariablesUpTo variables clause = All (λ (l : Literal). IsVariable variables l.variable) clause

-- No variable is in the clause twice.
abbrev pub HasNoVariableTwice : Clause → Type 0
HasNoVariableTwice clause = AllPairs (λ (l m : Literal). l.variable ≢ m.variable) clause

-- Each variable of the clause is one of 1 to `variables`, and none is in it twice.
pub record IsProper (variables : ℕ) (clause : Clause) : Type 0 where
  pub inside : HasVariablesUpTo variables clause
  pub once : HasNoVariableTwice clause
