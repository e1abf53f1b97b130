-- The literals that are set, in the order in which they were set.
use Rattle.std.specs.Prelude.{◌≡◌, ◌≢◌, ℕ, ◌+◌, ◌<◌, ◌≤◌, Bool, true, false, List, [], ◌∷◌, ◌++◌, map, take, drop, length, All, AllPairs, Contains, Option, None, Some, MatchOption, IsSome, slice_index_or}
use Rattle.clause_pool.specs.Literal.{Literal, opposite}
use Rattle.clause_pool.specs.Partial.{IsUndetermined}
use Rattle.solver_trail.specs.declared.set_literals.SetLiteral.{SetLiteral}

-- The set literals of variables 1 to `variables`, each with its level and reason, in the order in which they were
-- set, and the present level.
pub record Assignment : Type 0 where
  pub variables : ℕ
  pub literals : List SetLiteral
  pub level : ℕ

-- Some set literal, which serves for places past the end.
abbrev pub no_literal : SetLiteral
no_literal = record { literal = record { variable = 0; positive = false }; level = 0; reason = None }

-- The assignment with one more literal, whose level becomes the present one.
abbrev pub with_literal : Assignment → SetLiteral → Assignment
with_literal a s = record { variables = a.variables; literals = a.literals ++ s ∷ []; level = s.level }

-- The literal as it is decided: at the next level, without a reason.
abbrev pub decision : Assignment → Literal → SetLiteral
decision a l = record { literal = l; level = a.level + 1; reason = None }

-- The literals alone.
abbrev pub literals_of : List SetLiteral → List Literal
literals_of literals = map (λ (s : SetLiteral). s.literal) literals

-- The set literals alone.
abbrev pub assigned_literals : Assignment → List Literal
assigned_literals a = literals_of a.literals

-- No literal of the variable is set.
abbrev pub IsUnset : Assignment → ℕ → Type 0
IsUnset a variable = All (λ (s : SetLiteral). s.literal.variable ≢ variable) a.literals

-- The set literal of the variable, or none if the variable is unset.
abbrev pub IsSetAt : Assignment → ℕ → Option SetLiteral → Type 0
IsSetAt a variable None = IsUnset a variable
IsSetAt a variable (Some s) = Contains a.literals s × (s.literal.variable ≡ variable)

-- Whether the literal is true or false, or none if it is neither.
abbrev pub IsValueOf : Assignment → Literal → Option Bool → Type 0
IsValueOf a l None = IsUndetermined (assigned_literals a) l
IsValueOf a l (Some true) = Contains (assigned_literals a) l
IsValueOf a l (Some false) = Contains (assigned_literals a) (opposite l)

-- A decided literal begins the next level. A literal with a reason has the level before it.
abbrev pub FollowsLevel : ℕ → SetLiteral → Type 0
FollowsLevel before s = MatchOption s.reason (s.level ≡ before + 1) (λ _. s.level ≡ before)

-- The levels follow one another, from the level before the first literal to that of the last one.
abbrev pub AreInLevels : ℕ → List SetLiteral → ℕ → Type 0
AreInLevels before [] last = before ≡ last
AreInLevels before (s ∷ rest) last = FollowsLevel before s × AreInLevels s.level rest last

-- The literal is of one of variables 1 to `variables`.
abbrev pub IsInside : ℕ → SetLiteral → Type 0
IsInside variables s = (0 < s.literal.variable) × (s.literal.variable ≤ variables)

-- What is true of each assignment: each set literal is of one of its variables, each variable is set at most once, so
-- no more literals are set than there are variables; and along the list the levels don't fall, start from 0 and end
-- at the present one, and each level above 0 begins with its decided literal and has no other decided one.
pub record IsTrail (a : Assignment) : Type 0 where
  pub inside : All (IsInside a.variables) a.literals
  pub once : AllPairs (λ (s t : SetLiteral). s.literal.variable ≢ t.literal.variable) a.literals
  pub few : length a.literals ≤ a.variables
  pub levels : AreInLevels 0 a.literals a.level

-- All set literals from place `from` up are of the present level.
abbrev pub IsSteady : Assignment → ℕ → Type 0
IsSteady a from = (j : ℕ) (d : SetLiteral) → from ≤ j → j < length a.literals → (slice_index_or a.literals j d).level ≡ a.level

-- None of the set literals before the place makes `l` false.
abbrev pub IsNotFalseBefore : Assignment → ℕ → Literal → Type 0
IsNotFalseBefore a place l = (j : ℕ) (d : SetLiteral) → j < place → j < length a.literals → (slice_index_or a.literals j d).literal ≢ opposite l

-- The new assignment has the literals of the old one and perhaps more after them, at the present level and with
-- reasons; variables and level are the same.
pub record Propagates (old new : Assignment) : Type 0 where
  pub variables : new.variables ≡ old.variables
  pub level : new.level ≡ old.level
  pub more : List SetLiteral
  pub added : new.literals ≡ old.literals ++ more
  pub at_level : All (λ (s : SetLiteral). (s.level ≡ old.level) × IsSome s.reason) more

-- The new assignment has exactly those of the old literals that are of levels up to `level`, which is now the present
-- one; the variables are the same.
pub record CutsAbove (old new : Assignment) (level : ℕ) : Type 0 where
  pub variables : new.variables ≡ old.variables
  pub present : new.level ≡ level
  pub prefix : new.literals ≡ take (length new.literals) old.literals
  pub kept : All (λ (s : SetLiteral). s.level ≤ level) new.literals
  pub cut : All (λ (s : SetLiteral). level < s.level) (drop (length new.literals) old.literals)
