-- The answers of all fault numbers to all patterns.
use Rattle.std.specs.Prelude.{◌≡◌, ℕ, ◌+◌, ◌<◌, ◌^◌, ◌⊎◌, ◌≢◌, Bool, List, [], length, slice_index, slice_index_or, All}
use Rattle.net_model.specs.Circuit.{Circuit}
use Rattle.net_model.specs.Answer.{bit_at}
use Rattle.net_model.specs.FaultList.{fault_count}
use Rattle.net_model.specs.PatternRows.{AreAnswerRows}

-- A row for each pattern, with an answer for each number.
pub record Answers : Type 0 where
  pub numbers : ℕ
  pub positions : ℕ
  pub rows : List (List (List Bool))

-- A number's answer in a row.
abbrev pub answer_in : List (List Bool) → ℕ → List Bool
answer_in row number = slice_index_or row number []

-- A number's answer to a pattern.
abbrev pub answer_to : Answers → ℕ → ℕ → List Bool
answer_to t pattern number = answer_in (slice_index_or t.rows pattern []) number

-- The bit of a number's answer to a pattern at a position.
abbrev pub answer_bit : Answers → ℕ → ℕ → ℕ → Bool
answer_bit t pattern number position = bit_at (answer_to t pattern number) position

-- The table has the given numbers of patterns, numbers and positions.
pub record HasSizes (t : Answers) (patterns numbers positions : ℕ) : Type 0 where
  pub patterns_are : length t.rows ≡ patterns
  pub numbers_are : t.numbers ≡ numbers
  pub positions_are : t.positions ≡ positions

-- What is true of every table: each row has an answer for each number, and each answer has a bit for each position.
pub record IsTable (t : Answers) : Type 0 where
  pub numbers : (pattern : ℕ) → pattern < length t.rows → length (slice_index_or t.rows pattern []) ≡ t.numbers
  pub positions : (pattern number : ℕ) → pattern < length t.rows → number < t.numbers → length (answer_to t pattern number) ≡ t.positions

-- The new table has this bit at one place, and is otherwise the old one.
pub record HasBitSet (old new : Answers) (pattern number position : ℕ) (bit : Bool) : Type 0 where
  pub sizes : HasSizes new (length old.rows) old.numbers old.positions
  pub here : answer_bit new pattern number position ≡ bit
  pub others : (p n k : ℕ) → p < length old.rows → n < old.numbers → k < old.positions → (p ≢ pattern) ⊎ ((n ≢ number) ⊎ (k ≢ position)) → answer_bit new p n k ≡ answer_bit old p n k

-- The table has the answers of these numbers of another table, in their order.
pub record ArePicked (t : Answers) (numbers : List ℕ) (picked : Answers) : Type 0 where
  pub sizes : HasSizes picked (length t.rows) (length numbers) t.positions
  pub each : (pattern n : ℕ) → pattern < length t.rows → n < length numbers → answer_to picked pattern n ≡ answer_to t pattern (slice_index numbers n)

-- The new table has right bits of `number` at the positions below `limit` for `count` patterns starting at `first`, and
-- other numbers and earlier patterns have theirs as before. `right` says by place in the block, number and position
-- which bits are right.
pub record IsNumberSet (right : ℕ → ℕ → ℕ → Bool → Type 0) (count : ℕ) (old new : Answers) (number first limit : ℕ) : Type 0 where
  pub sizes : HasSizes new (length old.rows) old.numbers old.positions
  pub here : (lane k : ℕ) → lane < count → k < limit → right lane number k (answer_bit new (first + lane) number k)
  pub others : (p n k : ℕ) → p < length old.rows → n < old.numbers → k < old.positions → (p < first) ⊎ (n ≢ number) → answer_bit new p n k ≡ answer_bit old p n k

-- The table has the answers of the circuit's fault numbers to the patterns.
pub record AreAnswers (c : Circuit) (patterns : List (List Bool)) (t : Answers) : Type 0 where
  pub numbers : t.numbers ≡ fault_count c
  pub positions : t.positions ≡ length c.positions
  pub rows : AreAnswerRows c patterns t.rows

-- Each pattern has a bit for each of the circuit's sources, and there are fewer than 2^32 patterns.
pub record AreAnswerable (c : Circuit) (patterns : List (List Bool)) : Type 0 where
  pub widths : All (λ v. length v ≡ c.sources) patterns
  pub few : length patterns < 2 ^ 32
