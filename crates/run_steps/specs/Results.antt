-- Which bytes are accepted as a result for a circuit, and which are refused with which text.
use Rattle.std.specs.Prelude.{◌≡◌}
use Rattle.net_model.specs.Circuit.{Circuit}
use Rattle.result_file.specs.declared.fault.ResultFault.{ResultFault}
use Rattle.result_file.specs.Valid.{IsValidFile}
use Rattle.result_file.specs.Refusal.{FileRefused}
use Rattle.text_fields.specs.Fields.{Text}
use Rattle.run_steps.specs.Texts.{result_text}

-- The bytes are accepted as `file`: they are its bytes, and it is valid for the circuit.
pub record IsResult (c : Circuit) (bytes file : Text) : Type 0 where
  pub same : bytes ≡ file
  pub valid : IsValidFile c file

-- The bytes are refused as a result for the circuit, and `console` is the text of the refusal.
pub record IsRefusedResult (c : Circuit) (bytes console : Text) : Type 0 where
  pub fault : ResultFault
  pub refused : FileRefused c bytes fault
  pub console_is : console ≡ result_text fault
