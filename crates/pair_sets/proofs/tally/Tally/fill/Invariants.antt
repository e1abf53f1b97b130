use Rattle.std.proofs.Common.{◌≡◌, ◌<◌, ◌≤◌, ◌-◌, ℕ, length, get_or}
use Rattle.std.specs.Prelude.{false, filter, vec_capacity}
use Rattle.std.specs.List.{range_with_len}
use Rattle.net_model.specs.Scope.{is_reached}
use Rattle.event_queue.specs.Pending.{is_pending}
use Rattle.pair_sets.specs.PairSet.{free_pairs}
use Rattle.pair_sets.specs.Tally.{IsShownAt}
use Rattle.pair_sets.proofs.tally.Tally.fill.Given as goal

abbrev pub invariant-loop-at : goal.invariant-loop-at
invariant-loop-at l = record {
  from : l.from ≤ length l.pair.circuit.now.positions;
  queue_room : length l.self.waiting ≡ length l.pair.circuit.now.positions;
  low : (at : ℕ) → at < l.from → is_pending l.self.waiting at ≡ false;
  next : (at : ℕ) → l.from ≤ at → at < length l.pair.circuit.now.positions → is_pending l.self.waiting at ≡ is_reached l.pair.circuit.now l.pair.f l.pair.g at;
  reached : l.self.reached.items ≡ filter (is_reached l.pair.circuit.now l.pair.f l.pair.g) (range_with_len 0 l.from);
  room : length l.pair.circuit.now.positions ≤ vec_capacity l.self.reached;
  whole : length l.self.shown ≡ length l.pair.circuit.now.positions;
  before : (at : ℕ) → at < l.from → IsShownAt l.pair.circuit.now l.pair.f l.pair.g l.sets l.self.shown at;
  behind : (at : ℕ) → l.from ≤ at → get_or l.self.shown at free_pairs ≡ free_pairs;
}

abbrev pub decreases-loop-at : goal.decreases-loop-at
decreases-loop-at l = length l.pair.circuit.now.positions - l.from
