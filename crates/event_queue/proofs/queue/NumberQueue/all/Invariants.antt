use Rattle.std.proofs.Common.{◌≡◌, ◌<◌, ℕ, true, length}
use Rattle.event_queue.specs.Pending.{is_pending}
use Rattle.event_queue.proofs.queue.NumberQueue.all.Given as goal

abbrev pub invariant-loop-number : goal.invariant-loop-number
invariant-loop-number l = record {
  room : length l.queue ≡ l.count;
  all : (n : ℕ) → n < l.number → is_pending l.queue n ≡ true;
}
