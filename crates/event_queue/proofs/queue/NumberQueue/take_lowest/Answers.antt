use Rattle.std.proofs.Common.{◌≡◌, ◌<◌, ◌≤◌, ◌^◌, ◌*◌, ◌+◌, ◌%◌, ◌∙◌, ℕ, List, length, get_or, arith, ap, sym, subst, w64}
use Rattle.std.specs.Prelude.{bit_and}
use Rattle.std.specs.Int.{bit_not, trailing_zeros}
use Rattle.std.proofs.lemmas.List.{get_or_read, length-set}
use Rattle.event_queue.specs.Pending.{IsEmpty}
use Rattle.event_queue.proofs.Words.{AreNone, words_before, none_left, all_words_zero, small_set, zero_above, zero_below, fewer_bits}
use Rattle.event_queue.proofs.Marks.{marks_count, none_is, low_digits, one_less, pending_within, not_before}
use Rattle.event_queue.proofs.queue.NumberQueue.take_lowest.Goals as goal

-- no number is left if the search came to the end
nothing : (c : goal.After-self-then-at-self-1) → AreNone c.self.inside.words.items
nothing c =
    let words = c.self.inside.words.items in
    let at = c.first_word-at.result in
    let scanned : (k : ℕ) → c.max.result ≤ k → k < at → get_or words k 0 ≡ 0 = rw c.as_slice.ensures.value at c.first_word-at.ensures.before in
    let zero = words_before words c.self.inside.low c.args.from c.max.result at c.self.invariant.digits c.max.ensures c.self.invariant.below (low_digits c.self.inside.count words c.args.from c.self.invariant.spare (rw c.self.view_is c.requires)) scanned in
    none_left words c.self.inside.top (λ k h. zero k (omega (arith, c.if-at-self.true))) c.self.invariant.above

pub invariant_of-self : goal.invariant_of-self
invariant_of-self c =
    let words = c.self.inside.words.items in
    let none = nothing c in
    let zero = all_words_zero words c.self.invariant.digits none in
    record {
      few = c.self.invariant.few;
      whole = c.self.invariant.whole;
      digits = c.self.invariant.digits;
      spare = c.self.invariant.spare;
      top = omega arith;
      below = λ at h. zero at;
      above = λ at h. zero at;
    }

pub returns-then-at-self-clause-cases : goal.returns-then-at-self-clause-cases
returns-then-at-self-clause-cases c =
    let empty = none_is c.self.inside.count c.self.inside.words.items c.self.invariant.spare (nothing c) in
    (subst IsEmpty c.self.view_is empty, empty)

record IsFound (words : List ℕ) (at word : ℕ) : Type 0 where
  inside : at < length words
  read : word ≡ get_or words at 0
  some : 0 < word
  small : word < 2 ^ 64

is_found : (words : List ℕ) (at word : ℕ) → at < length words → word ≡ get_or words at word → 0 < get_or words at 0 → ((k d : ℕ) → k < length words → get_or words k d < 2 ^ 64) → IsFound words at word
is_found words at word inside read found digits =
    let is : word ≡ get_or words at 0 = get_or_read words at word inside read 0 in
    record { inside = inside; read = is; some = omega (arith, is, found); small = omega (arith, is, digits at 0 inside) }

pub invariant_of-self-2 : goal.invariant_of-self-2
invariant_of-self-2 c =
    let words = c.self.inside.words.items in
    let at = c.first_word-at.result in
    let word = c.index-word.result.now in
    let mask = bit_not w64 (1 * 2 ^ (trailing_zeros w64 word) % 2 ^ 64) in
    let found = is_found words at word (omega (arith, c.if-at-self.false, c.self.invariant.top)) c.index-word.ensures (rw (← c.as_slice.ensures.value) (c.first_word-at.ensures.found c.if-at-self.false)) c.self.invariant.digits in
    let scanned : (k : ℕ) → c.max.result ≤ k → k < at → get_or words k 0 ≡ 0 = rw c.as_slice.ensures.value at c.first_word-at.ensures.before in
    let zero = words_before words c.self.inside.low c.args.from c.max.result at c.self.invariant.digits c.max.ensures c.self.invariant.below (low_digits c.self.inside.count words c.args.from c.self.invariant.spare (rw c.self.view_is c.requires)) scanned in
    record {
      few = c.self.invariant.few;
      whole = length-set words at (bit_and word mask) ∙ c.self.invariant.whole;
      digits = small_set words at (bit_and word mask) c.self.invariant.digits (fewer_bits word mask found.small);
      spare = (one_less c.self.inside.count at word words c.self.invariant.spare found.inside found.read found.some found.small zero).spare;
      top = omega (arith, length-set words at (bit_and word mask), c.self.invariant.top);
      below = zero_below words at (bit_and word mask) at at zero (omega arith) (omega arith);
      above = zero_above words at (bit_and word mask) c.self.inside.top c.self.inside.top c.self.invariant.above c.if-at-self.false (omega arith);
    }

pub returns-clause-cases : goal.returns-clause-cases
returns-clause-cases c =
    let words = c.self.inside.words.items in
    let at = c.first_word-at.result in
    let word = c.index-word.result.now in
    let found = is_found words at word (omega (arith, c.if-at-self.false, c.self.invariant.top)) c.index-word.ensures (rw (← c.as_slice.ensures.value) (c.first_word-at.ensures.found c.if-at-self.false)) c.self.invariant.digits in
    let scanned : (k : ℕ) → c.max.result ≤ k → k < at → get_or words k 0 ≡ 0 = rw c.as_slice.ensures.value at c.first_word-at.ensures.before in
    let zero = words_before words c.self.inside.low c.args.from c.max.result at c.self.invariant.digits c.max.ensures c.self.invariant.below (low_digits c.self.inside.count words c.args.from c.self.invariant.spare (rw c.self.view_is c.requires)) scanned in
    rw (← c.self.view_is) (one_less c.self.inside.count at word words c.self.invariant.spare found.inside found.read found.some found.small zero).lowest_is

pub returns-clause-room : goal.returns-clause-room
returns-clause-room c = marks_count c.self.inside.count _ ∙ sym (marks_count c.self.inside.count c.self.inside.words.items) ∙ ap length c.self.view_is

pub returns-clause-above : goal.returns-clause-above
returns-clause-above c = not_before c.args.self.now c.args.from (c.first_word-at.result * 64 + trailing_zeros w64 c.index-word.result.now) c.requires (returns-clause-cases c).was

pub returns-clause-within : goal.returns-clause-within
returns-clause-within c = pending_within c.args.self.now (c.first_word-at.result * 64 + trailing_zeros w64 c.index-word.result.now) (returns-clause-cases c).was
