use Rattle.std.proofs.Common.{◌≡◌, ◌<◌, ◌≤◌, ◌-◌, ℕ, length}
use Rattle.std.specs.Prelude.{false}
use Rattle.pair_sets.specs.CubeState.{set_at}
use Rattle.event_queue.specs.Pending.{is_pending}
use Rattle.pair_sets.specs.Trail.{HasChangeRoom, IsLonger}
use Rattle.pair_sets.specs.Events.{ArePairsSettled, AreLoose}
use Rattle.pair_sets.proofs.events.follow.Given as goal

abbrev pub invariant-loop-place : goal.invariant-loop-place
invariant-loop-place l = record {
  from : l.from ≤ length l.wiring.order;
  queue : length l.queue ≡ length l.wiring.order;
  low : (place : ℕ) → place < l.from → is_pending l.queue place ≡ false;
  longer : IsLonger l.initial.trail l.trail;
  room : HasChangeRoom l.trail;
  settled : ArePairsSettled l.pair.circuit.now l.pair.f l.pair.g l.wiring.order l.queue l.trail.sets.items;
  loose : AreLoose l.pair.circuit.now l.pair.f l.pair.g l.trail.sets.items;
  sources : (source : ℕ) → source < l.pair.circuit.now.sources → set_at l.trail.sets.items source ≡ set_at l.initial.trail.sets.items source;
}

abbrev pub decreases-loop-place : goal.decreases-loop-place
decreases-loop-place l = length l.wiring.order - l.from
