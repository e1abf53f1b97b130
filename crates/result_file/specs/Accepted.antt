-- What is accepted.
use Rattle.std.specs.Prelude.{◌≡◌, ◌≤◌, List, length}
use Rattle.net_model.specs.Circuit.{Circuit}
use Rattle.net_model.specs.PatternRows.{IsTableOf}
use Rattle.result_file.specs.declared.checked.Checked.{Checked}
use Rattle.result_records.specs.declared.limits.TheConstants.{RESULT_LIMIT}
use Rattle.result_records.specs.declared.record.Record.{Record}
use Rattle.text_fields.specs.Fields.{Text}
use Rattle.result_records.specs.Spelling.{text_of}
use Rattle.result_records.specs.Marks.{patterns_in}
use Rattle.result_file.specs.Lines.{budgets_in}
use Rattle.result_file.specs.Summary.{summary_of}
use Rattle.result_file.specs.Valid.{IsValid}

-- The records are valid and their text is within the limit of bytes. What was checked are their counts, budgets and
-- patterns, and the classes of these.
pub record IsAccepted (c : Circuit) (records : List Record) (checked : Checked) : Type 0 where
  pub valid : IsValid c records
  pub short : length (text_of records) ≤ RESULT_LIMIT
  pub summary : checked.summary ≡ summary_of records
  pub budgets : checked.budgets ≡ budgets_in records
  pub patterns : checked.patterns ≡ patterns_in records
  pub table : IsTableOf c (patterns_in records) checked.classes

-- The bytes are those of a file that is accepted.
pub record IsAcceptedText (c : Circuit) (fed : Text) (checked : Checked) : Type 0 where
  pub records : List Record
  pub accepted : IsAccepted c records checked
  pub text_is : fed ≡ text_of records
