-- The pairs of two faults while they are computed from those of the circuit without faults.
use Rattle.std.specs.Prelude.{◌≡◌, ℕ, ◌<◌, Bool, true, false, List, [], length, slice_index}
use Rattle.net_model.specs.declared.fault.Fault.{Fault}
use Rattle.net_model.specs.Circuit.{Circuit, line_count, Feeds}
use Rattle.net_model.specs.Answer.{bit_at}
use Rattle.net_model.specs.Scope.{is_split}
use Rattle.fault_list.specs.Scope.{begins_at}
use Rattle.event_queue.specs.Pending.{is_pending, IsIdle}
use Rattle.pair_sets.specs.PairSet.{PairSet}
use Rattle.pair_sets.specs.CubeState.{set_at, line_pairs}

-- The queue has a place for each gate of the order, and there are a mark and a set of pairs for each line.
pub record HasWidth (c : Circuit) (order : List ℕ) (pending cone : List Bool) (pairs : List PairSet) : Type 0 where
  pub queue : length pending ≡ length order
  pub marks : length cone ≡ line_count c
  pub sets : length pairs ≡ line_count c

-- Except the lines that `but` names and those whose gates wait, each line has its pairs, and is marked if its gate
-- reads a marked line. Each line that a fault changes first is marked, except those that `but` names. Only split lines
-- are marked, and only their gates wait.
pub record IsSpread (c : Circuit) (f g : Fault) (order : List ℕ) (but : ℕ → Bool) (queue marks : List Bool) (sets : List PairSet) : Type 0 where
  pub settled : (line : ℕ) → line < line_count c → but line ≡ false → IsIdle order queue line → set_at sets line ≡ line_pairs c f g [] sets line
  pub begun : (line : ℕ) → begins_at f g line ≡ true → but line ≡ false → bit_at marks line ≡ true
  pub onward : (read reader : ℕ) → bit_at marks read ≡ true → Feeds c read reader → but reader ≡ false → IsIdle order queue reader → bit_at marks reader ≡ true
  pub split : (line : ℕ) → bit_at marks line ≡ true → is_split c f g line ≡ true
  pub waiting : (place : ℕ) → is_pending queue place ≡ true → is_split c f g (slice_index order place) ≡ true
