-- Which bytes are accepted as a partial log for a result, and which are refused with which text.
use Rattle.std.specs.Prelude.{◌≡◌, List, length}
use Rattle.net_model.specs.Circuit.{Circuit}
use Rattle.result_records.specs.declared.record.Record.{Record}
use Rattle.result_records.specs.Spelling.{text_of}
use Rattle.result_records.specs.Marks.{patterns_in}
use Rattle.result_file.specs.Valid.{IsValid}
use Rattle.ranked_diag.specs.PartialLog.{Line, IsPartialLog}
use Rattle.text_fields.specs.Fields.{Text}
use Rattle.run_steps.specs.Logs.{IsRefusedPartialOf}

-- ---- a log for a result

-- The bytes `result` spell records that are valid for the circuit.
pub record AreValidBytes (c : Circuit) (result : Text) : Type 0 where
  pub records : List Record
  pub spelled : result ≡ text_of records
  pub valid : IsValid c records

-- The bytes are the partial log of these lines, for the patterns of the valid result and the positions of the circuit.
pub record IsLogAt (c : Circuit) (result bytes : Text) (lines : List Line) : Type 0 where
  pub of : AreValidBytes c result
  pub log : IsPartialLog (length (patterns_in of.records)) (length c.positions) bytes lines

-- The bytes are refused as a partial log for the patterns of the valid result and the positions of the circuit, and
-- `console` is the text of the refusal.
pub record IsRefusedAt (c : Circuit) (result bytes console : Text) : Type 0 where
  pub of : AreValidBytes c result
  pub refused : IsRefusedPartialOf (length (patterns_in of.records)) (length c.positions) bytes console
