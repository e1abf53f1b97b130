-- A circuit that is run on patterns, a block of them at once.
use Rattle.std.specs.Prelude.{◌≡◌, ◌≢◌, ℕ, ◌+◌, ◌%◌, ◌<◌, ◌≤◌, ◌⊎◌, Bool, not, List, [], length, Some, slice_index, slice_index_or}
use Rattle.net_model.specs.Circuit.{Circuit, IsCircuit}
use Rattle.net_model.specs.Answer.{bit_at, IsAnswer}
use Rattle.net_model.specs.FaultList.{fault_numbered}
use Rattle.net_model.specs.ClassTable.{same_bits}
use Rattle.net_model.specs.declared.fault.Fault.TheVariants.{Free}
use Rattle.word_sim.specs.declared.lanes.TheConstants.{LANES}
use Rattle.table_dicts.specs.declared.pattern_sim.PatternSim.{PatternSim}
use Rattle.table_dicts.specs.declared.simulating.Kept.{Kept}
use Rattle.table_dicts.specs.declared.simulating.Kept.TheVariants.{Bits, Fails}
use Rattle.dict_rows.specs.AnswerTable.{Answers, HasSizes, answer_bit}

-- All fields are those of one circuit.
pub record IsPatternSim (c : Circuit) (b : PatternSim) : Type 0 where
  pub circuit : IsCircuit c
  pub subject : b.subject.now ≡ c
  pub block : b.block.sources ≡ c.sources
  pub good : b.good.circuit ≡ c
  pub sim : b.sim.circuit ≡ c

-- The pattern simulator is that of its circuit and has run the patterns of its block, at most as many as there are
-- lanes.
pub record HasRunPatterns (b : PatternSim) : Type 0 where
  pub pattern_sim : IsPatternSim b.good.circuit b
  pub ran : b.good.ran ≡ Some b.block.vectors
  pub few : length b.block.vectors ≤ LANES

-- The bit is that of the number's answer to the pattern at the position.
abbrev pub IsAnswerBit : Circuit → List (List Bool) → ℕ → ℕ → ℕ → Bool → Type 0
IsAnswerBit c patterns pattern number position bit = (answer : List Bool) → IsAnswer c (fault_numbered c number) (slice_index_or patterns pattern []) answer → bit ≡ bit_at answer position

-- The bit says whether the number's answer to the pattern differs from the fault-free one.
abbrev pub IsFailBit : Circuit → List (List Bool) → ℕ → ℕ → ℕ → Bool → Type 0
IsFailBit c patterns pattern number position bit = (answer free : List Bool) → IsAnswer c (fault_numbered c number) (slice_index_or patterns pattern []) answer → IsAnswer c Free (slice_index_or patterns pattern []) free → bit ≡ not (same_bits answer free)

-- The bit is what is kept of the number's answer to the pattern.
abbrev pub IsKeptBit : Kept → Circuit → List (List Bool) → ℕ → ℕ → ℕ → Bool → Type 0
IsKeptBit Bits c patterns = IsAnswerBit c patterns
IsKeptBit Fails c patterns = IsFailBit c patterns

-- The bit is what is kept of the answer to the pattern of the number at a place of a list.
abbrev pub IsListedBit : Kept → Circuit → List (List Bool) → List ℕ → ℕ → ℕ → ℕ → Bool → Type 0
IsListedBit kept c patterns numbers pattern place = IsKeptBit kept c patterns pattern (slice_index numbers place)

-- The number of bits that are kept of an answer.
abbrev pub kept_width : Kept → ℕ → ℕ
kept_width Bits positions = positions
kept_width Fails positions = 1

-- What is kept of answers to the block fits into the table, with the first pattern of the block at `first`.
pub record FitsAt (kept : Kept) (b : PatternSim) (t : Answers) (first : ℕ) : Type 0 where
  pub width : t.positions ≡ kept_width kept (length b.good.circuit.positions)
  pub aligned : first % 64 ≡ 0
  pub within : first + length b.block.vectors ≤ length t.rows

-- The new table has the bits of lanes as a number's answers at a position to `count` patterns starting at `first`, and
-- other numbers, other positions and earlier patterns have theirs as before.
pub record IsColumnSet (lanes : List Bool) (count : ℕ) (old new : Answers) (number first position : ℕ) : Type 0 where
  pub sizes : HasSizes new (length old.rows) old.numbers old.positions
  pub here : (lane : ℕ) → lane < count → answer_bit new (first + lane) number position ≡ bit_at lanes lane
  pub others : (p n k : ℕ) → p < length old.rows → n < old.numbers → k < old.positions → (p < first) ⊎ ((n ≢ number) ⊎ (k ≢ position)) → answer_bit new p n k ≡ answer_bit old p n k

-- The table has one number, whose answer to the pattern of each lane is what the lanes have.
pub record HasLanes (t : Answers) (lanes : List (List Bool)) : Type 0 where
  pub sizes : HasSizes t LANES 1 (length lanes)
  pub same : (lane k : ℕ) → lane < LANES → k < length lanes → answer_bit t lane 0 k ≡ bit_at (slice_index_or lanes k []) lane

-- The new table has right bits of the numbers below `limit` for `count` patterns starting at `first`, and earlier
-- patterns have theirs as before.
pub record AreNumbersSet (right : ℕ → ℕ → ℕ → Bool → Type 0) (count : ℕ) (old new : Answers) (limit first : ℕ) : Type 0 where
  pub sizes : HasSizes new (length old.rows) old.numbers old.positions
  pub here : (lane n k : ℕ) → lane < count → n < limit → k < old.positions → right lane n k (answer_bit new (first + lane) n k)
  pub others : (p n k : ℕ) → p < first → p < length old.rows → n < old.numbers → k < old.positions → answer_bit new p n k ≡ answer_bit old p n k

-- There is a bit for each pattern, number and position, and those of the patterns before `end` are right.
pub record AreRightBits (right : ℕ → ℕ → ℕ → Bool → Type 0) (patterns numbers positions end : ℕ) (t : Answers) : Type 0 where
  pub sizes : HasSizes t patterns numbers positions
  pub each : (p n k : ℕ) → p < end → n < numbers → k < positions → right p n k (answer_bit t p n k)
