use Rattle.std.proofs.Common.{◌≡◌, ◌<◌, ◌≤◌, ◌+◌, ◌-◌, ℕ, true, false, [], length, get_or}
use Rattle.event_queue.specs.Pending.{is_pending}
use Rattle.fault_sim.specs.Events.{AreIdleSettled, IsUnderway}
use Rattle.fault_sim.proofs.events.turn_line.Given as goal

abbrev pub invariant-loop-place : goal.invariant-loop-place
invariant-loop-place l = record {
  from : l.from ≤ length l.wiring.order;
  room : l.rows.room ≡ l.initial.rows.room;
  listed : length l.rows.listed ≤ l.from + 1;
  low : (place : ℕ) → place < l.from → is_pending l.queue place ≡ false;
  within : (place : ℕ) → is_pending l.queue place ≡ true → place < length l.wiring.order;
  after : (own place : ℕ) → own < length l.wiring.order → get_or l.wiring.order own 0 ≡ l.line → is_pending l.queue place ≡ true → own < place;
  turned : get_or l.rows.rows l.line [] ≡ l.fn.lanes;
  settled : AreIdleSettled l.good l.wiring.order l.line l.queue l.rows.rows;
  underway : IsUnderway l.good l.wiring.order l.queue l.rows.rows;
}

abbrev pub decreases-loop-place : goal.decreases-loop-place
decreases-loop-place l = length l.wiring.order - l.from
