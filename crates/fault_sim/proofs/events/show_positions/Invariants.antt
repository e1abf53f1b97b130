use Rattle.std.proofs.Common.{◌≡◌, ◌<◌, ◌≤◌, ◌-◌, ℕ, true, false, [], length, get_or}
use Rattle.std.specs.Prelude.{All, AllPairs}
use Rattle.event_queue.specs.Pending.{is_pending}
use Rattle.fault_sim.specs.Rows.{IsFalse, IsTrueSomewhere}
use Rattle.fault_sim.specs.Events.{IsSameRow, row_shown}
use Rattle.fault_sim.proofs.events.show_positions.Given as goal

abbrev pub invariant-loop-at : goal.invariant-loop-at
invariant-loop-at l = record {
  from : l.from ≤ length l.shown;
  marks : length l.marks ≡ length l.initial.marks;
  whole : length l.positions.rows ≡ length l.initial.positions.rows;
  room : l.positions.room ≡ l.initial.positions.room;
  listed : length l.positions.listed ≤ l.from;
  low : (position : ℕ) → position < l.from → is_pending l.marks position ≡ false;
  within : (position : ℕ) → is_pending l.marks position ≡ true → position < length l.shown;
  later : (position : ℕ) → l.from ≤ position → position < length l.shown → IsFalse (get_or l.positions.rows position []);
  below : All (λ position. position < l.from) l.positions.listed;
  some : All (λ position. IsTrueSomewhere (get_or l.positions.rows position [])) l.positions.listed;
  ascending : AllPairs ◌<◌ l.positions.listed;
  shown : (position : ℕ) → position < length l.shown → is_pending l.marks position ≡ false → IsSameRow (get_or l.positions.rows position []) (row_shown l.shown l.lines position);
}

abbrev pub decreases-loop-at : goal.decreases-loop-at
decreases-loop-at l = length l.shown - l.from
