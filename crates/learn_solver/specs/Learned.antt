-- Learned clauses.
use Rattle.std.specs.Prelude.{◌≡◌, ℕ, ◌<◌, ◌≤◌, List, [], ◌∷◌, All, Contains, None, Some}
use Rattle.clause_pool.specs.Literal.{Literal}
use Rattle.clause_pool.specs.Clauses.{Clause}
use Rattle.clause_pool.specs.Partial.{IsQuiet}
use Rattle.clause_pool.specs.Proper.{HasNoVariableTwice, IsProper}
use Rattle.pair_miter.specs.ChainView.{ChainView}
use Rattle.pair_miter.specs.Resolution.{SameLiterals, chain_end}
use Rattle.solver_trail.specs.Assignment.{Assignment}
use Rattle.learn_solver.specs.Places.{IsFalseOf, up_to}

-- The literal is false, by a set literal of a level above 0 and up to `highest`.
pub record IsLower (a : Assignment) (highest : ℕ) (l : Literal) : Type 0 where
  pub level : ℕ
  pub false_of : IsFalseOf a level l
  pub above : 0 < level
  pub up_to : level ≤ highest

-- The first literal is false and of the present level. The others are false, of levels above 0 and up to the
-- back-jump level, which is below the present one; if the back-jump level is above 0, one of them is of it.
pub record IsAsserting (a : Assignment) (back : ℕ) (clause : Clause) : Type 0 where
  pub asserting : Literal
  pub others : List Literal
  pub is : clause ≡ asserting ∷ others
  pub first : IsFalseOf a a.level asserting
  pub lower : All (IsLower a back) others
  pub below : back < a.level
  pub highest : 0 < back → (l : Literal) × Contains others l × IsFalseOf a back l

-- The chain has an end, and this has the literals of the clause.
pub record ChainEndsIn (clauses : List Clause) (chain : ChainView) (clause : Clause) : Type 0 where
  pub end : Clause
  pub ends : chain_end clauses chain ≡ Some end
  pub same : SameLiterals end clause

-- The clause is proper, and at each level below `back`, which isn't above the present level, unit propagation has
-- nothing to do at it.
pub record IsQuietBelow (a : Assignment) (back : ℕ) (clause : Clause) : Type 0 where
  pub proper : IsProper a.variables clause
  pub below : back ≤ a.level
  pub quiet : (level : ℕ) → level < back → IsQuiet (up_to a.literals level) clause

-- The chain names no literal and ends in the clause, which has no variable twice. The clause is empty at level 0, and
-- asserting at each other level.
pub record IsLearned (a : Assignment) (clauses : List Clause) (chain : ChainView) (clause : Clause) (back : ℕ) : Type 0 where
  pub bare : chain.fresh_at ≡ None
  pub ends_in : ChainEndsIn clauses chain clause
  pub once : HasNoVariableTwice clause
  pub empty : a.level ≡ 0 → clause ≡ []
  pub asserting : 0 < a.level → IsAsserting a back clause
