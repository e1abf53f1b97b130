use Rattle.std.proofs.Common.{◌≡◌, ℕ, true, length, take}
use Rattle.std.specs.Prelude.{Contains, ◌⊎◌}
use Rattle.event_queue.specs.Pending.{is_pending}
use Rattle.event_queue.proofs.queue.NumberQueue.wake.Given as goal

abbrev pub invariant-loop-number : goal.invariant-loop-number
invariant-loop-number l = record {
  room : length l.self ≡ length l.fn.self;
  here : (n : ℕ) → Contains (take l.number-index l.numbers) n → is_pending l.self n ≡ true;
  kept : (n : ℕ) → is_pending l.fn.self n ≡ true → is_pending l.self n ≡ true;
  only : (n : ℕ) → is_pending l.self n ≡ true → is_pending l.fn.self n ≡ true ⊎ Contains (take l.number-index l.numbers) n;
}
