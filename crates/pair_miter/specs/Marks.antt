-- Marks of literals, and the variables that a writer may name.
use Rattle.std.specs.Prelude.{◌≡◌, ◌<◌, ◌≤◌, ◌+◌, ◌*◌, ◌^◌, ℕ, IfSome, Bool, List, [], length, All}
use Rattle.net_model.specs.Answer.{bit_at}
use Rattle.clause_pool.specs.Literal.{Literal}
use Rattle.clause_pool.specs.LiteralCode.{code_of}
use Rattle.clause_pool.specs.Clauses.{Clause}
use Rattle.pair_miter.specs.Miter.{has_literal}
use Rattle.clause_pool.specs.Proper.{IsVariable}
use Rattle.pair_miter.specs.Operand.{Operand, variable_of}

-- The marked literals are those of the clause.
abbrev pub AreMarksOfClause : List Bool → Clause → Type 0
AreMarksOfClause marks clause = (l : Literal) → bit_at marks (code_of l) ≡ has_literal clause l

-- Both literals of each of the clause's variables have a place.
abbrev pub HavePlaces : List Bool → Clause → Type 0
HavePlaces marks clause = All (λ l. 2 * l.variable + 1 < length marks) clause

-- There is a place for each literal of the variables, which are fewer than 2^31, and none is marked.
pub record AreClear (variables : ℕ) (marks : List Bool) : Type 0 where
  pub few : variables < 2 ^ 31
  pub places : length marks ≡ 2 * variables + 2
  pub none : AreMarksOfClause marks []

-- The operand is a constant, or one of the variables 1 to `variables`.
abbrev pub IsOperand : ℕ → Operand → Type 0
IsOperand variables operand = IfSome (variable_of operand) (IsVariable variables)

-- The helpers of an exclusive or of `count` variables, two fewer than these, are among the variables 1 to `variables`.
abbrev pub AreHelpers : ℕ → ℕ → ℕ → Type 0
AreHelpers variables helper count = 2 < count → (0 < helper) × (helper + count ≤ variables + 3)
