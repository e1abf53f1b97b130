-- The only place of a line in a list, and the only gate at some places of an order.
use Rattle.std.specs.Prelude.{◌≡◌, ℕ, ◌<◌, List, length, slice_get, slice_index, Option, None, Some, Contains}

-- The list has the line at this place alone, or no place is given and there is no such place.
abbrev pub IsOnlyPlace : List ℕ → ℕ → Option ℕ → Type 0
IsOnlyPlace lines line None = (at : ℕ) → slice_get lines at ≡ Some line → ((other : ℕ) → slice_get lines other ≡ Some line → other ≡ at) → ⊥
IsOnlyPlace lines line (Some at) = (slice_get lines at ≡ Some line) × ((other : ℕ) → slice_get lines other ≡ Some line → other ≡ at)

-- There are places, and the order has this gate at all of them; or no gate is given and there is no such gate.
abbrev pub IsOnlyReader : List ℕ → List ℕ → Option ℕ → Type 0
IsOnlyReader order places None = (gate : ℕ) → 0 < length places → ((place : ℕ) → Contains places place → slice_index order place ≡ gate) → ⊥
IsOnlyReader order places (Some gate) = (0 < length places) × ((place : ℕ) → Contains places place → slice_index order place ≡ gate)
