-- What is printed about a valid result.
use Rattle.std.specs.Prelude.{◌≡◌, List}
use Rattle.net_model.specs.Circuit.{Circuit}
use Rattle.result_records.specs.declared.record.Record.{Record}
use Rattle.result_records.specs.Spelling.{text_of}
use Rattle.result_file.specs.Summary.{summary_of}
use Rattle.result_file.specs.Valid.{IsValid}
use Rattle.text_fields.specs.Fields.{Text}
use Rattle.result_commands.specs.Texts.{valid_text}

-- The file is a valid result for the circuit, and the text says what it amounts to.
pub record IsValidText (c : Circuit) (file text : Text) : Type 0 where
  pub records : List Record
  pub spelled : file ≡ text_of records
  pub valid : IsValid c records
  pub text_is : text ≡ valid_text (summary_of records)
