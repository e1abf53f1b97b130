-- Changes under way: the gates that wait, and the lines that are settled.
use Rattle.std.specs.Prelude.{◌≡◌, ℕ, ◌<◌, ◌≤◌, ◌⊎◌, Bool, true, List, [], length, slice_index}
use Rattle.net_model.specs.declared.fault.Fault.{Fault}
use Rattle.net_model.specs.Circuit.{Circuit, line_count, Feeds}
use Rattle.event_queue.specs.Pending.{is_pending, IsIdle}
use Rattle.pair_sets.specs.PairSet.{PairSet, IsWithin}
use Rattle.pair_sets.specs.CubeState.{set_at, line_pairs}

-- the pairs of a line that a gate drives
abbrev pub gate_line_pairs : Circuit → Fault → Fault → List PairSet → ℕ → PairSet
gate_line_pairs c f g sets line = line_pairs c f g [] sets line

-- Each line whose gate doesn't wait has the pairs that its gate gives it.
abbrev pub ArePairsSettled : Circuit → Fault → Fault → List ℕ → List Bool → List PairSet → Type 0
ArePairsSettled c f g order queue sets = (line : ℕ) → c.sources ≤ line → line < line_count c → IsIdle order queue line → set_at sets line ≡ gate_line_pairs c f g sets line

-- Each line that a gate drives has the pairs that its gate gives it, and perhaps others.
abbrev pub AreLoose : Circuit → Fault → Fault → List PairSet → Type 0
AreLoose c f g sets = (line : ℕ) → c.sources ≤ line → line < line_count c → IsWithin (gate_line_pairs c f g sets line) (set_at sets line)

-- Each gate that reads the line waits.
abbrev pub ReadersWait : Circuit → List ℕ → ℕ → List Bool → Type 0
ReadersWait c order line queue = (place : ℕ) → place < length order → Feeds c line (slice_index order place) → is_pending queue place ≡ true

-- The gates that waited still do, and no others wait except readers of the line.
pub record WakesOnly (c : Circuit) (order : List ℕ) (line : ℕ) (old new : List Bool) : Type 0 where
  pub kept : (place : ℕ) → is_pending old place ≡ true → is_pending new place ≡ true
  pub only : (place : ℕ) → is_pending new place ≡ true → (is_pending old place ≡ true) ⊎ ((place < length order) × Feeds c line (slice_index order place))

-- The gates that waited and all readers of the line wait, and no others.
pub record AreWoken (c : Circuit) (order : List ℕ) (line : ℕ) (old new : List Bool) : Type 0 where
  pub others : WakesOnly c order line old new
  pub readers : ReadersWait c order line new

-- The gates that waited still do, and no others wait except readers of the line. If its pairs changed, all readers of
-- the line wait.
pub record WakesReaders (c : Circuit) (order : List ℕ) (line : ℕ) (was pairs : PairSet) (old new : List Bool) : Type 0 where
  pub others : WakesOnly c order line old new
  pub readers : (was ≡ pairs) ⊎ ReadersWait c order line new
