-- What is made from a result that is compacted.
use Rattle.std.specs.Prelude.{◌≡◌}
use Rattle.net_model.specs.Circuit.{Circuit}
use Rattle.compact_tests.specs.declared.thin.Thin.{Thin}
use Rattle.compact_tests.specs.Compacted.{IsCompacted}
use Rattle.text_fields.specs.Fields.{Text}
use Rattle.result_commands.specs.Texts.{dropped_text}

-- The file is what is left of a valid result for the circuit, and the text says what that amounts to.
pub record IsMadeThin (c : Circuit) (result file text : Text) : Type 0 where
  pub thin : Thin
  pub compacted : IsCompacted c result thin
  pub file_is : file ≡ thin.text
  pub text_is : text ≡ dropped_text thin.summary thin.dropped
