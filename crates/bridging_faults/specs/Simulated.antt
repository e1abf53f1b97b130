-- What is known of the lines of a circuit, noted for one block of a log's lines after another.
use Rattle.std.specs.Prelude.{◌≡◌, ◌≢◌, ℕ, ◌+◌, ◌<◌, ◌≤◌, Bool, not, List, [], length, slice_index_or}
use Rattle.net_model.specs.declared.fault.Site.TheVariants.{Stem}
use Rattle.net_model.specs.declared.fault.Fault.TheVariants.{Free, Stuck}
use Rattle.net_model.specs.Circuit.{Circuit}
use Rattle.net_model.specs.Answer.{bit_at, Agrees, IsAnswer}
use Rattle.net_model.specs.Rows.{row_at, row_bit, HaveSameShape}
use Rattle.fault_sim.specs.FaultSim.{FaultSim, IsDifference, lanes_at}
use Rattle.dict_rows.specs.AnswerTable.{Answers}
use Rattle.dict_rows.specs.Rows.{AreRows}
use Rattle.table_dicts.specs.declared.setting.Setting.{Setting}
use Rattle.table_dicts.specs.Setting.{AreAnswersAt}
use Rattle.ranked_diag.specs.PartialLog.{Line}
use Rattle.suspect_scores.specs.declared.columns.LogColumns.{LogColumns}
use Rattle.suspect_scores.specs.declared.logged.Logged.{Logged}
use Rattle.suspect_scores.specs.Marks.{IsLogged}
use Rattle.suspect_scores.specs.Scored.{meets_all}
use Rattle.suspect_scores.specs.Columns.{lane_score}
use Rattle.bridging_faults.specs.LineRows.{does_fit}

-- ---- bits

-- The bit is the line's fault-free value at a pattern.
abbrev pub IsFreeValue : Circuit → List (List Bool) → ℕ → ℕ → Bool → Type 0
IsFreeValue c patterns line k bit = (bits : List Bool) → Agrees c Free (slice_index_or patterns k []) bits → bit ≡ bit_at bits line

-- The bit says whether the circuit fits a line of the log with this line's stem stuck at the opposite of its fault-free
-- value.
abbrev pub IsTurnedBit : Setting → Logged → ℕ → ℕ → Bool → Type 0
IsTurnedBit s logged line k bit = (lines : List Line) (table : Answers) (free answer : List Bool) → IsLogged s lines logged → AreAnswersAt s table → Agrees s.subject.now Free (slice_index_or logged.patterns.items k []) free
    → IsAnswer s.subject.now (Stuck (Stem line) (not (bit_at free line))) (slice_index_or logged.patterns.items k []) answer → bit ≡ does_fit lines k answer

-- The bit says whether a lane fits its line of the log, by a simulation of where the answers differ with the line
-- turned.
pub record IsTurnedLane (c : Circuit) (vectors : List (List Bool)) (columns : LogColumns) (first line lane : ℕ) (bit : Bool) : Type 0 where
  pub sim : FaultSim
  pub circuit : sim.circuit ≡ c
  pub differ : (position : ℕ) (free : List Bool) → position < length c.positions → Agrees c Free (slice_index_or vectors lane []) free
      → IsDifference c (Stuck (Stem line) (not (bit_at free line))) (slice_index_or vectors lane []) position (bit_at (lanes_at sim position) lane)
  pub is : bit ≡ meets_all (lane_score columns sim first lane)

-- ---- rows

-- There are `lines` rows of `logged` bits, and the first `done` bits of each are right.
pub record AreKnown (right : ℕ → ℕ → Bool → Type 0) (lines logged done : ℕ) (rows : List (List Bool)) : Type 0 where
  pub are : AreRows lines logged rows
  pub each : (line k : ℕ) → line < lines → k < done → right line k (row_bit rows line k)

-- There are `lines` rows, each with at least `first` + `count` bits.
pub record HaveRoom (lines first count : ℕ) (rows : List (List Bool)) : Type 0 where
  pub many : length rows ≡ lines
  pub wide : (line : ℕ) → line < lines → first + count ≤ length (row_at rows line)

-- The row has these bits at `count` lines of the log starting at `first`. Its bits before `first`, the other rows and
-- the shape are as before.
pub record AreLanesNoted (bits : ℕ → Bool) (first count : ℕ) (old new : List (List Bool)) (row : ℕ) : Type 0 where
  pub shape : HaveSameShape old new
  pub here : (lane : ℕ) → lane < count → row_bit new row (first + lane) ≡ bits lane
  pub before : (k : ℕ) → k < first → row_bit new row k ≡ row_bit old row k
  pub others : (r : ℕ) → r ≢ row → row_at new r ≡ row_at old r

-- The line's row has right bits at `count` lines of the log starting at `first`. Its bits before `first`, the other
-- rows and the shape are as before.
pub record IsLineNoted (right : ℕ → ℕ → Bool → Type 0) (first count : ℕ) (old new : List (List Bool)) (line : ℕ) : Type 0 where
  pub shape : HaveSameShape old new
  pub here : (lane : ℕ) → lane < count → right line lane (row_bit new line (first + lane))
  pub before : (k : ℕ) → k < first → row_bit new line k ≡ row_bit old line k
  pub others : (r : ℕ) → r ≢ line → row_at new r ≡ row_at old r

-- The first `done` rows have right bits at `count` lines of the log starting at `first`. All bits before `first` and
-- the shape are as before.
pub record AreLinesNoted (right : ℕ → ℕ → Bool → Type 0) (first count : ℕ) (old new : List (List Bool)) (done : ℕ) : Type 0 where
  pub shape : HaveSameShape old new
  pub here : (line lane : ℕ) → line < done → lane < count → right line lane (row_bit new line (first + lane))
  pub before : (line k : ℕ) → k < first → row_bit new line k ≡ row_bit old line k
