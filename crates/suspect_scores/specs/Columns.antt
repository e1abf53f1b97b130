-- What a log says, by positions, and the scores of the lines of a block.
use Rattle.std.specs.Prelude.{◌≡◌, ℕ, ◌+◌, ◌*◌, ◌<◌, ◌≤◌, ◌^◌, ◌&&◌, Bool, false, not, List, length, map, sum_by, count_by, nat_lt, All, AllPairs, Contains}
use Rattle.std.specs.List.{range_with_len}
use Rattle.net_model.specs.Answer.{bit_at}
use Rattle.net_model.specs.Rows.{bit_of, row_bit}
use Rattle.fault_sim.specs.FaultSim.{FaultSim, lanes_at}
use Rattle.dict_rows.specs.Rows.{AreRows}
use Rattle.suspect_scores.specs.declared.columns.LogColumns.{LogColumns}
use Rattle.suspect_scores.specs.declared.block_scores.LaneScores.{LaneScores}
use Rattle.suspect_scores.specs.declared.marks.LogMarks.{LogMarks}
use Rattle.suspect_scores.specs.declared.scoring.LineScore.{LineScore}
use Rattle.suspect_scores.specs.declared.suspect.Suspect.{Suspect}
use Rattle.suspect_scores.specs.declared.bit_count.BitCount.{BitCount}
use Rattle.suspect_scores.specs.Scored.{count_to, score_to, does_explain}

-- ---- columns

-- the bit of a position in each line
abbrev pub column_of : List (List Bool) → ℕ → ℕ → List Bool
column_of rows lines position = map (λ line. row_bit rows line position) (range_with_len 0 lines)

-- There is a row for each position, with its bit in each line.
pub record AreTransposed (lines positions : ℕ) (rows columns : List (List Bool)) : Type 0 where
  pub are : AreRows positions lines columns
  pub bits : (position line : ℕ) → position < positions → line < lines → row_bit columns position line ≡ row_bit rows line position

-- The listed positions are ascending, and each position whose row has a bit that is set is among them.
pub record AreWrongPositions (rows : List (List Bool)) (positions : ℕ) (listed : List ℕ) : Type 0 where
  pub within : All (λ position. position < positions) listed
  pub ascending : AllPairs ◌<◌ listed
  pub others : (position line : ℕ) → position < positions → (Contains listed position → ⊥) → row_bit rows position line ≡ false

-- For each position there are a row of wrong bits and one of right bits, and the wrong positions are listed.
pub record AreColumnRows (positions : ℕ) (columns : LogColumns) : Type 0 where
  pub wrongs : length columns.wrong ≡ positions
  pub rights : length columns.right ≡ positions
  pub wrong_positions : AreWrongPositions columns.wrong positions columns.wrong_positions.items

-- The columns are the marks of the lines, by position.
pub record AreColumns (lines positions : ℕ) (m : LogMarks) (columns : LogColumns) : Type 0 where
  pub rows : AreColumnRows positions columns
  pub wrongs : AreTransposed lines positions m.wrong columns.wrong
  pub rights : AreTransposed lines positions m.right columns.right

-- ---- 64 lanes

-- in how many of 64 lanes a test holds
unfoldable pub count_lanes : (ℕ → Bool) → ℕ
count_lanes test = count_to test 64

-- `bits` is in how many of 64 lanes the test of a position holds, over all positions, and `some` has the lanes in which
-- the test of some position holds.
pub record IsBitCount (test : ℕ → ℕ → Bool) (positions : List ℕ) (t : BitCount) : Type 0 where
  pub bits : t.bits ≡ sum_by (λ position. count_lanes (test position)) positions
  pub some : (k : ℕ) → k < 64 → bit_of t.some k ≡ nat_lt 0 (count_by (λ position. test position k) positions)

module _ (rows : List (List Bool)) (sim : FaultSim) (line lane : ℕ) where
  -- whether the bit of a position is set in a line, and the answer differs there in the line's lane
  abbrev pub is_changed_lane : ℕ → ℕ → Bool
  is_changed_lane position k = row_bit rows position (line + k) && bit_at (lanes_at sim position) (lane + k)

  -- whether the bit of a position is set in a line, and the answer doesn't differ there in the line's lane, which is
  -- one of the first `count` lanes
  abbrev pub is_same_lane : ℕ → ℕ → ℕ → Bool
  is_same_lane count position k = nat_lt k count && (row_bit rows position (line + k) && not (bit_at (lanes_at sim position) (lane + k)))

-- No answer differs in the lanes `from..to`.
abbrev pub AreSame : FaultSim → ℕ → ℕ → Type 0
AreSame sim from to = (position lane : ℕ) → position < length sim.circuit.positions → from ≤ lane → lane < to → bit_at (lanes_at sim position) lane ≡ false

-- ---- sums

-- The sums of the two scores fit words.
pub record DoSumsFit (a b : Suspect) : Type 0 where
  pub explained : a.explained + b.explained < 2 ^ 32
  pub hit : a.hit_bits + b.hit_bits < 2 ^ 64
  pub missed : a.missed_bits + b.missed_bits < 2 ^ 64
  pub wrong : a.false_bits + b.false_bits < 2 ^ 64

-- The new score has the number of the first one and the sums of both.
pub record HasSums (a b new : Suspect) : Type 0 where
  pub number : new.number ≡ a.number
  pub explained : new.explained ≡ a.explained + b.explained
  pub hit : new.hit_bits ≡ a.hit_bits + b.hit_bits
  pub missed : new.missed_bits ≡ a.missed_bits + b.missed_bits
  pub wrong : new.false_bits ≡ a.false_bits + b.false_bits

-- ---- scores

-- the score of the line of a lane, by where the lane's answer differs
unfoldable pub lane_score : LogColumns → FaultSim → ℕ → ℕ → LineScore
lane_score columns sim first lane =
    score_to (λ position. bit_at (lanes_at sim position) lane) (λ position. row_bit columns.wrong position (first + lane)) (λ position. row_bit columns.right position (first + lane)) (length sim.circuit.positions)

module _ (score : ℕ → LineScore) where
  -- `w` has which of `count` lanes, starting at `lane`, are explained, and the sums of their scores.
  pub record AreLaneScores (lane count : ℕ) (w : LaneScores) : Type 0 where
    pub explained : (k : ℕ) → k < 64 → bit_of w.explained k ≡ (nat_lt k count && does_explain (score (lane + k)))
    pub hit : w.sums.hit_bits ≡ sum_by (λ k. (score k).hit_bits) (range_with_len lane count)
    pub missed : w.sums.missed_bits ≡ sum_by (λ k. (score k).missed_bits) (range_with_len lane count)
    pub wrong : w.sums.false_bits ≡ sum_by (λ k. (score k).false_bits) (range_with_len lane count)

  -- the score of the first `count` lanes
  unfoldable pub suspect_to : ℕ → ℕ → Suspect
  suspect_to number count = record {
    number = number;
    explained = count_to (λ k. does_explain (score k)) count;
    hit_bits = sum_by (λ k. (score k).hit_bits) (range_with_len 0 count);
    missed_bits = sum_by (λ k. (score k).missed_bits) (range_with_len 0 count);
    false_bits = sum_by (λ k. (score k).false_bits) (range_with_len 0 count);
  }

  -- The new score is the old one with the lines of the first `count` lanes added.
  pub record HasBlockMore (count : ℕ) (old new : Suspect) : Type 0 where
    pub number : new.number ≡ old.number
    pub explained : new.explained ≡ old.explained + count_to (λ k. does_explain (score k)) count
    pub hit : new.hit_bits ≡ old.hit_bits + sum_by (λ k. (score k).hit_bits) (range_with_len 0 count)
    pub missed : new.missed_bits ≡ old.missed_bits + sum_by (λ k. (score k).missed_bits) (range_with_len 0 count)
    pub wrong : new.false_bits ≡ old.false_bits + sum_by (λ k. (score k).false_bits) (range_with_len 0 count)

-- The sums with `count` more lines fit words.
pub record CanAddBlock (count positions : ℕ) (s : Suspect) : Type 0 where
  pub explained : s.explained + count < 2 ^ 32
  pub hit : s.hit_bits + count * positions < 2 ^ 64
  pub missed : s.missed_bits + count * positions < 2 ^ 64
  pub wrong : s.false_bits + count * positions < 2 ^ 64
