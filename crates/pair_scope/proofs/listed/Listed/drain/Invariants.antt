use Rattle.std.proofs.Common.{◌≡◌, ◌<◌, ◌≤◌, ◌-◌, ℕ, length}
use Rattle.std.specs.Prelude.{false, filter, vec_capacity}
use Rattle.std.specs.List.{range_with_len}
use Rattle.net_model.specs.Answer.{bit_at}
use Rattle.event_queue.specs.Pending.{is_pending}
use Rattle.pair_scope.proofs.listed.Listed.drain.Given as goal

abbrev pub invariant-loop-number : goal.invariant-loop-number
invariant-loop-number l = record {
  from : l.from ≤ length l.initial.queue;
  queue_room : length l.queue ≡ length l.initial.queue;
  low : (n : ℕ) → n < l.from → is_pending l.queue n ≡ false;
  next : (n : ℕ) → l.from ≤ n → is_pending l.queue n ≡ is_pending l.initial.queue n;
  numbers : l.self.numbers.items ≡ filter (is_pending l.initial.queue) (range_with_len 0 l.from);
  room : length l.initial.queue ≤ vec_capacity l.self.numbers;
  whole : length l.self.marks.items ≡ length l.initial.queue;
  before : (n : ℕ) → n < l.from → bit_at l.self.marks.items n ≡ is_pending l.initial.queue n;
  behind : (n : ℕ) → l.from ≤ n → n < length l.initial.queue → bit_at l.self.marks.items n ≡ false;
}

abbrev pub decreases-loop-number : goal.decreases-loop-number
decreases-loop-number l = length l.initial.queue - l.from
