-- The state while the events of a turned line are followed: the gates that wait, and the lines that are settled.
use Rattle.std.specs.Prelude.{◌≡◌, ◌≢◌, ℕ, ◌<◌, ◌≤◌, Bool, List, [], length, slice_index, slice_index_or}
use Rattle.net_model.specs.Circuit.{line_count}
use Rattle.net_model.specs.Answer.{bit_at}
use Rattle.event_queue.specs.Pending.{IsIdle}
use Rattle.word_sim.specs.declared.lanes.TheConstants.{LANES}
use Rattle.word_sim.specs.GoodSim.{GoodSim}
use Rattle.fault_heads.specs.Turned.{IsFalsePast}
use Rattle.fault_sim.specs.TurnedLines.{IsSettled}

module _ (good : GoodSim) where
  -- Each line except one is settled.
  abbrev pub AreOthersSettled : ℕ → List (List Bool) → Type 0
  AreOthersSettled but rows = (line : ℕ) → line < line_count good.circuit → line ≢ but → IsSettled good rows line

  -- Each line whose gate doesn't wait is settled, except one.
  abbrev pub AreIdleSettled : List ℕ → ℕ → List Bool → List (List Bool) → Type 0
  AreIdleSettled order but queue rows = (line : ℕ) → line < line_count good.circuit → line ≢ but → IsIdle order queue line → IsSettled good rows line

  -- Each line that was settled is settled still, except one line and those whose gates wait now.
  abbrev pub StaySettled : List ℕ → ℕ → List Bool → List (List Bool) → List (List Bool) → Type 0
  StaySettled order but queue old new = (line : ℕ) → line < line_count good.circuit → line ≢ but → IsIdle order queue line → IsSettled good old line → IsSettled good new line

-- No line is turned in a lane that has no vector.
abbrev pub AreFalsePast : GoodSim → List (List Bool) → Type 0
AreFalsePast good rows = (line : ℕ) → line < length rows → IsFalsePast good (slice_index_or rows line [])

-- There is a row for each line and room for each gate to wait, and no line is turned in a lane that has no vector.
pub record IsUnderway (good : GoodSim) (order : List ℕ) (queue : List Bool) (rows : List (List Bool)) : Type 0 where
  pub width : length rows ≡ line_count good.circuit
  pub queue_room : length order ≤ length queue
  pub past : AreFalsePast good rows

-- the row of the line that a position shows
abbrev pub row_shown : List ℕ → List (List Bool) → ℕ → List Bool
row_shown positions lines position = slice_index_or lines (slice_index positions position) []

-- The rows have the same bit in each lane.
abbrev pub IsSameRow : List Bool → List Bool → Type 0
IsSameRow row other = (lane : ℕ) → lane < LANES → bit_at row lane ≡ bit_at other lane
