use Rattle.std.proofs.Common.{◌≡◌, ◌+◌, ◌⊎◌, ℕ, length, take, true}
use Rattle.std.specs.Prelude.{Contains}
use Rattle.event_queue.specs.Pending.{is_pending}
use Rattle.pair_scope.proofs.places.LinePlaces.wake_readers.Given as goal

abbrev pub invariant-loop-reader : goal.invariant-loop-reader
invariant-loop-reader l = record {
  room : length l.queue ≡ length l.initial.queue;
  kept : (place : ℕ) → is_pending l.initial.queue place ≡ true → is_pending l.queue place ≡ true;
  here : (at : ℕ) → Contains (take l.reader-index l.reader-items) at → is_pending l.queue (l.sources + at) ≡ true;
  only : (place : ℕ) → is_pending l.queue place ≡ true → (is_pending l.initial.queue place ≡ true) ⊎ ((at : ℕ) × Contains l.reader-items at × (place ≡ l.sources + at));
}
