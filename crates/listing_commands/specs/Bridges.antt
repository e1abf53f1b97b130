-- What the command `bridges` prints of a result and a log.
use Rattle.std.specs.Prelude.{ℕ, List}
use Rattle.net_model.specs.Circuit.{Circuit}
use Rattle.result_records.specs.Marks.{patterns_in}
use Rattle.ranked_diag.specs.PartialLog.{Line}
use Rattle.bridging_faults.specs.Printed.{AreBridgesOf}
use Rattle.text_fields.specs.Fields.{Text}
use Rattle.run_steps.specs.ResultLogs.{AreValidBytes}

-- The text lists the bridges of a log, at the patterns of a valid result for the circuit, by the names of their lines.
pub record IsBridgesText (c : Circuit) (names : List Text) (result : Text) (lines : List Line) (within most : ℕ) (text : Text) : Type 0 where
  pub of : AreValidBytes c result
  pub are : AreBridgesOf c names (patterns_in of.records) lines within most text
