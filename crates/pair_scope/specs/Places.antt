-- The lines of a circuit by their places, and those that wait.
use Rattle.std.specs.Prelude.{◌≡◌, ℕ, suc, ◌-◌, ◌<◌, ◌⊎◌, ◌++◌, Bool, true, List, length, slice_index, Some, Contains}
use Rattle.std.specs.List.{list_any, range_with_len}
use Rattle.net_model.specs.declared.fault.Fault.{Fault}
use Rattle.net_model.specs.Circuit.{Circuit, line_count, Feeds}
use Rattle.net_model.specs.Scope.{first_changed, leads_to}
use Rattle.net_model.specs.Wiring.{Wiring, IsWiring}
use Rattle.event_queue.specs.Pending.{is_pending}
use Rattle.pair_scope.specs.declared.places.LinePlaces.{LinePlaces}

-- The wiring is the circuit's, `lines` has the sources and after them the gates in the wiring's order, and `places` has
-- the place of each line.
pub record ArePlacesOf (c : Circuit) (wiring : Wiring) (lines places : List ℕ) : Type 0 where
  pub wired : IsWiring c wiring
  pub are : lines ≡ range_with_len 0 c.sources ++ wiring.order
  pub whole : length places ≡ line_count c
  pub each : (place : ℕ) → place < line_count c → slice_index places (slice_index lines place) ≡ place

abbrev pub ArePlaced : LinePlaces → Type 0
ArePlaced a = ArePlacesOf a.circuit.now a.wiring.now a.lines.items a.places.items

-- a place counted from the end
abbrev pub from_end : ℕ → ℕ → ℕ
from_end count place = count - suc place

-- The places that waited still do, and so does that of the first line that the fault changes, if it changes one. No
-- others wait.
pub record HasBegun (fault : Fault) (lines places : List ℕ) (old new : List Bool) : Type 0 where
  pub kept : (place : ℕ) → is_pending old place ≡ true → is_pending new place ≡ true
  pub here : (line : ℕ) → first_changed fault ≡ Some line → is_pending new (slice_index places line) ≡ true
  pub only : (place : ℕ) → is_pending new place ≡ true → (is_pending old place ≡ true) ⊎ (first_changed fault ≡ Some (slice_index lines place))

-- The places that waited still do, and so do those of the readers of the line. No others wait.
pub record AreWokenFrom (c : Circuit) (line : ℕ) (lines places : List ℕ) (old new : List Bool) : Type 0 where
  pub kept : (place : ℕ) → is_pending old place ≡ true → is_pending new place ≡ true
  pub here : (reader : ℕ) → Feeds c line reader → is_pending new (slice_index places reader) ≡ true
  pub only : (place : ℕ) → is_pending new place ≡ true → (is_pending old place ≡ true) ⊎ ((place < line_count c) × Feeds c line (slice_index lines place))

-- The places that waited still do, and so do those of these lines, counted from the end. No others wait.
pub record AreWokenBack (these : ℕ → Type 0) (count : ℕ) (places : List ℕ) (old new : List Bool) : Type 0 where
  pub kept : (place : ℕ) → is_pending old place ≡ true → is_pending new place ≡ true
  pub here : (line : ℕ) → these line → is_pending new (from_end count (slice_index places line)) ≡ true
  pub only : (place : ℕ) → is_pending new place ≡ true → (is_pending old place ≡ true) ⊎ ((line : ℕ) × these line × (place ≡ from_end count (slice_index places line)))

-- One of these positions shows the line.
abbrev pub IsShownBy : Circuit → List ℕ → ℕ → Type 0
IsShownBy c positions line = (at : ℕ) × Contains positions at × (slice_index c.positions at ≡ line)

-- whether a line is, or leads to, the line of one of these positions
abbrev pub leads_to_shown : Circuit → List ℕ → ℕ → Bool
leads_to_shown c positions line = list_any (λ at. leads_to c line (slice_index c.positions at)) positions
