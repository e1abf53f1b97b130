-- What a block of a log's lines adds to what is known of a number.
use Rattle.std.specs.Prelude.{◌≡◌, ◌≢◌, ℕ, ◌+◌, ◌<◌, ◌≤◌, Bool, List, length, slice_index, slice_index_or}
use Rattle.net_model.specs.Circuit.{Circuit}
use Rattle.net_model.specs.FaultList.{fault_numbered}
use Rattle.net_model.specs.Rows.{row_at, row_bit, HaveSameShape}
use Rattle.fault_sim.specs.FaultSim.{FaultSim, AreDifferences}
use Rattle.suspect_scores.specs.declared.columns.LogColumns.{LogColumns}
use Rattle.suspect_scores.specs.declared.scoring.LineScore.{LineScore}
use Rattle.suspect_scores.specs.declared.suspect.Suspect.{Suspect}
use Rattle.suspect_scores.specs.Scored.{does_explain}
use Rattle.suspect_scores.specs.Columns.{lane_score, HasBlockMore}

-- ---- scores

module _ (c : Circuit) (vectors : List (List Bool)) (columns : LogColumns) (first : ℕ) where
  -- The new score is the old one with the lines of the block added, by where the number's answers differ.
  pub record IsAdded (old new : Suspect) : Type 0 where
    pub sim : FaultSim
    pub circuit : sim.circuit ≡ c
    pub differ : AreDifferences c (fault_numbered c old.number) vectors sim.differences
    pub more : HasBlockMore (lane_score columns sim first) (length vectors) old new

  -- Each score has the lines of the block added.
  pub record AreAdded (old new : List Suspect) : Type 0 where
    pub count : length new ≡ length old
    pub each : (place : ℕ) (none : Suspect) → place < length old → IsAdded (slice_index_or old place none) (slice_index_or new place none)

-- ---- rows of lines

-- The row has for each of `count` lines, starting at `first`, whether it is explained, by its score. The lines before
-- and the other rows are as before.
pub record AreLinesNoted (score : ℕ → LineScore) (first count : ℕ) (old new : List (List Bool)) (row : ℕ) : Type 0 where
  pub shape : HaveSameShape old new
  pub here : (lane : ℕ) → lane < count → row_bit new row (first + lane) ≡ does_explain (score lane)
  pub before : (k : ℕ) → k < first → row_bit new row k ≡ row_bit old row k
  pub others : (r : ℕ) → r ≢ row → row_at new r ≡ row_at old r

module _ (c : Circuit) (vectors : List (List Bool)) (columns : LogColumns) (first : ℕ) where
  -- The row has for each line of the block whether the number explains it, by where its answers differ.
  pub record IsNoted (old new : List (List Bool)) (row number : ℕ) : Type 0 where
    pub sim : FaultSim
    pub circuit : sim.circuit ≡ c
    pub differ : AreDifferences c (fault_numbered c number) vectors sim.differences
    pub noted : AreLinesNoted (lane_score columns sim first) first (length vectors) old new row

  -- The bit is whether the number explains one line of the block, by where its answers differ.
  pub record IsNotedAt (number lane : ℕ) (bit : Bool) : Type 0 where
    pub sim : FaultSim
    pub circuit : sim.circuit ≡ c
    pub differ : AreDifferences c (fault_numbered c number) vectors sim.differences
    pub is : bit ≡ does_explain (lane_score columns sim first lane)

  -- Each of the first `done` numbers has this in its row for each line of the block. The lines before the block and the
  -- other rows are as before.
  pub record AreNoted (old new : List (List Bool)) (numbers : List ℕ) (done : ℕ) : Type 0 where
    pub shape : HaveSameShape old new
    pub here : (place lane : ℕ) → place < done → lane < length vectors → IsNotedAt (slice_index numbers place) lane (row_bit new place (first + lane))
    pub before : (place k : ℕ) → k < first → row_bit new place k ≡ row_bit old place k
    pub others : (place : ℕ) → done ≤ place → row_at new place ≡ row_at old place
