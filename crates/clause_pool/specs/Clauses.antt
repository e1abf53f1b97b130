-- Clauses, and the view of a pool of them.
use Rattle.std.specs.Prelude.{◌≡◌, ◌⊎◌, ℕ, ◌+◌, ◌-◌, ◌<◌, List, [], ◌∷◌, ◌++◌, take, drop, length, Option, None, slice_get, ◌==◌, if◌then◌else◌}
use Rattle.std.specs.List.{sum_by}
use Rattle.clause_pool.specs.Literal.{Literal}

-- a list of literals, which is true if one of them is
abbrev pub Clause : Type 0
Clause = List Literal

-- the clauses of a pool, and how many more clauses and literals there is room for
pub record Clauses : Type 0 where
  pub clauses : List Clause
  pub spare_clauses : ℕ
  pub spare_literals : ℕ

-- how many literals the clauses have together
abbrev pub literal_count : List Clause → ℕ
literal_count clauses = sum_by length clauses

-- how many places for clauses the pool has, used and spare ones
abbrev pub clause_places : Clauses → ℕ
clause_places pool = length pool.clauses + pool.spare_clauses

-- how many places for literals the pool has, used and spare ones
abbrev pub literal_places : Clauses → ℕ
literal_places pool = literal_count pool.clauses + pool.spare_literals

-- No clause is spare, or fewer literals are spare than the clause has.
abbrev pub LacksRoom : Clauses → Clause → Type 0
LacksRoom pool clause = (pool.spare_clauses ≡ 0) ⊎ (pool.spare_literals < length clause)

-- the clauses of a region of literals that begins at this place and is cut at these ends
abbrev pub clauses_of : ℕ → List ℕ → List Literal → List Clause
clauses_of from [] literals = []
clauses_of from (end ∷ ends) literals = take (end - from) literals ∷ clauses_of end ends (drop (end - from) literals)

-- the clause with this number, if there is one; the first has number 1
abbrev pub numbered_clause : List Clause → ℕ → Option Clause
numbered_clause clauses number = if number == 0 then None else slice_get clauses (number - 1)

-- The clauses begin with those of `first`.
pub record BeginsWith (clauses first : List Clause) : Type 0 where
  pub more : List Clause
  pub are : clauses ≡ first ++ more
