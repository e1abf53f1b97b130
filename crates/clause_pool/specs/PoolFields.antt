-- What holds of the fields of every pool.
use Rattle.std.specs.Prelude.{◌≡◌, ℕ, ◌+◌, ◌≤◌, ◌<◌, ◌^◌, ◌-◌, ◌==◌, List, [], ◌∷◌, length, slice_index, if◌then◌else◌}
use Rattle.clause_pool.specs.Literal.{Literal}

-- The ends rise, starting at the place, up to the end of the region.
abbrev pub AreEnds : ℕ → List ℕ → ℕ → Type 0
AreEnds from [] total = from ≡ total
AreEnds from (end ∷ ends) total = (from ≤ end) × AreEnds end ends total

-- The ends cut the literals into clauses, used and spare clauses together are fewer than 2^32, and what is spare has
-- its place in memory.
pub record HasPlaces (ends : List ℕ) (literals : List Literal) (spare_clauses spare_literals clause_capacity literal_capacity : ℕ) : Type 0 where
  pub cut : AreEnds 0 ends (length literals)
  pub few : length ends + spare_clauses < 2 ^ 32
  pub clause_room : length ends + spare_clauses ≤ clause_capacity
  pub literal_room : length literals + spare_literals ≤ literal_capacity

-- where the clause at a place begins
abbrev pub start_place : List ℕ → ℕ → ℕ
start_place ends at = if at == 0 then 0 else slice_index ends (at - 1)
