-- Laws: a file is refused in at most one way, and only if it isn't valid, and what a valid one states is true.
use Rattle.std.specs.Prelude.{◌≡◌, ◌<◌, ◌↔◌, ℕ, List}
use Rattle.net_model.specs.Circuit.{Circuit, IsCircuit}
use Rattle.net_model.specs.Answer.{AreEqual}
use Rattle.net_model.specs.FaultList.{fault_count, fault_numbered}
use Rattle.result_records.specs.declared.record.Mark.TheVariants as mark
use Rattle.result_records.specs.declared.record.Budgets.{Budgets}
use Rattle.result_records.specs.declared.record.Record.{Record}
use Rattle.result_file.specs.declared.fault.ResultFault.{ResultFault}
use Rattle.text_fields.specs.Fields.{Text}
use Rattle.result_file.specs.Valid.{IsValid, IsValidFile}
use Rattle.result_file.specs.Refusal.{FileRefused}
use Rattle.result_file.specs.Meaning.{StatedResult, stated_records, stated_class, stated_mark, IsTrueResult, IsTrueFile}

-- A refused file isn't valid.
abbrev pub RefusedFileIsWrong : Type 0
RefusedFileIsWrong = (c : Circuit) (file : Text) (fault : ResultFault) → IsCircuit c → FileRefused c file fault → ¬ IsValidFile c file

-- A file is refused in at most one way: the rule and the line are the same.
abbrev pub OneFileRefusal : Type 0
OneFileRefusal = (c : Circuit) (file : Text) (fault other : ResultFault) → IsCircuit c → FileRefused c file fault → FileRefused c file other → fault ≡ other

-- Valid records state a result, and what it states is true of the circuit.
abbrev pub ValidIsTrue : Type 0
ValidIsTrue = (c : Circuit) (records : List Record) → IsCircuit c → IsValid c records → (s : StatedResult) × (records ≡ stated_records c s) × IsTrueResult c s

-- What a valid file states is true of the circuit, whatever budgets it states.
abbrev pub ValidFileIsTrue : Type 0
ValidFileIsTrue = (c : Circuit) (file : Text) → IsCircuit c → IsValidFile c file → (budgets : Budgets) × IsTrueFile c budgets file

-- No member is stated to be open.
abbrev pub HasNoOpen : Circuit → StatedResult → Type 0
HasNoOpen c s = (n : ℕ) → n < fault_count c → stated_mark s n ≡ mark.Spent → ⊥

-- If what is stated is true and no member is open, two numbers are of one class exactly if their faults answer alike
-- to every vector.
abbrev pub ClosedClassesAreEqual : Type 0
ClosedClassesAreEqual = (c : Circuit) (s : StatedResult) (m n : ℕ) → IsCircuit c → IsTrueResult c s → HasNoOpen c s → m < fault_count c → n < fault_count c
    → (stated_class s m ≡ stated_class s n) ↔ AreEqual c (fault_numbered c m) (fault_numbered c n)
