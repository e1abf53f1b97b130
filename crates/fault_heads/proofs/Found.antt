-- The place of a line in a list, found so far.
use Rattle.std.proofs.Common.{◌≡◌, ℕ, ◌<◌, List, length}
use Rattle.std.specs.Prelude.{Option, None, Some, slice_get}
use Rattle.net_model.specs.Circuit.{Circuit}
use Rattle.fault_heads.specs.declared.destination.GatePin.{GatePin}
use Rattle.fault_heads.specs.HeadsFields.{IsDestination}

-- Before place `at` the list has the line at this place alone, or no place is given and the list doesn't have it there.
abbrev pub FoundBefore : List ℕ → ℕ → ℕ → Option ℕ → Type 0
FoundBefore lines line at None = (other : ℕ) → other < at → slice_get lines other ≡ Some line → ⊥
FoundBefore lines line at (Some found) = (found < at) × (slice_get lines found ≡ Some line) × ((other : ℕ) → other < at → slice_get lines other ≡ Some line → other ≡ found)

-- The list has the only destinations of the first lines.
pub record AreFoundSoFar (c : Circuit) (lines : ℕ) (found : List (Option GatePin)) : Type 0 where
  pub count : length found ≡ lines
  pub each : (line : ℕ) (at : Option GatePin) → slice_get found line ≡ Some at → IsDestination c line at
