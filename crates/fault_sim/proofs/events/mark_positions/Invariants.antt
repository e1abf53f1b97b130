use Rattle.std.proofs.Common.{◌≡◌, ◌<◌, ℕ, true, [], length, get_or, take}
use Rattle.std.specs.Prelude.{Contains}
use Rattle.event_queue.specs.Pending.{is_pending}
use Rattle.fault_sim.proofs.events.mark_positions.Given as goal

abbrev pub invariant-loop-line : goal.invariant-loop-line
invariant-loop-line l = record {
  room : length l.marks ≡ length l.initial.marks;
  within : (position : ℕ) → is_pending l.marks position ≡ true → position < length l.circuit.positions;
  marked : (line position : ℕ) → Contains (take l.line-index l.line-items) line → Contains (get_or l.wiring.showing line []) position → is_pending l.marks position ≡ true;
}
