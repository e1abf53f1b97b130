-- What the fields of a `NumberQueue` show, and what is true of them.
use Rattle.std.specs.Prelude.{◌≡◌, ℕ, ◌/◌, ◌%◌, ◌<◌, ◌≤◌, ◌^◌, ◌==◌, Bool, false, List, map, length, slice_index, All}
use Rattle.std.specs.List.{range_with_len}
use Rattle.std.specs.Int.{bit_at, div_ceil}
use Rattle.event_queue.specs.declared.queue.NumberQueue.TheInside.{Inside}

-- whether a binary digit of a word is 1
abbrev pub has_digit : ℕ → ℕ → Bool
has_digit word at = bit_at word at == 1

-- whether the digit of a number is 1, in words of 64 digits
unfoldable pub digit_of : List ℕ → ℕ → Bool
digit_of words n = has_digit (slice_index words (n / 64)) (n % 64)

-- the digits of the numbers below a count
abbrev pub marks_below : ℕ → List ℕ → List Bool
marks_below count words = map (digit_of words) (range_with_len 0 count)

-- a mark for each number below the count of the queue
abbrev pub marks_of : Inside → List Bool
marks_of a = marks_below a.count a.words.items

-- There are fewer than 2^32 numbers, and as many words as they need. No digit past the count is 1, and no word other
-- than 0 is below `low`, or at `top` or above.
pub record IsBounded (a : Inside) : Type 0 where
  pub few : a.count < 2 ^ 32
  pub whole : length a.words.items ≡ div_ceil a.count 64
  pub digits : All (λ word. word < 2 ^ 64) a.words.items
  pub spare : (n : ℕ) → a.count ≤ n → digit_of a.words.items n ≡ false
  pub top : a.top ≤ length a.words.items
  pub below : (at : ℕ) → at < a.low → slice_index a.words.items at ≡ 0
  pub above : (at : ℕ) → a.top ≤ at → slice_index a.words.items at ≡ 0
