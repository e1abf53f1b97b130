use Rattle.std.proofs.Common.{◌≡◌, ◌<◌, ◌≤◌, ◌-◌, ℕ, length}
use Rattle.std.specs.Prelude.{false}
use Rattle.event_queue.specs.Pending.{is_pending}
use Rattle.pair_sets.specs.Spread.{HasWidth, IsSpread}
use Rattle.pair_sets.proofs.spread.spread.Given as goal

abbrev pub invariant-loop-place : goal.invariant-loop-place
invariant-loop-place l = record {
  from : l.from ≤ length l.wiring.order;
  width : HasWidth l.pair.circuit.now l.wiring.order l.queue l.cone l.sets.items;
  low : (place : ℕ) → place < l.from → is_pending l.queue place ≡ false;
  spread : IsSpread l.pair.circuit.now l.pair.f l.pair.g l.wiring.order (λ line. false) l.queue l.cone l.sets.items;
}

abbrev pub decreases-loop-place : goal.decreases-loop-place
decreases-loop-place l = length l.wiring.order - l.from
