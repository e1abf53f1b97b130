-- What the check returns once the rest of the file is read.
use Rattle.std.proofs.Common.{◌≡◌, ◌∙◌, ℕ, ◌≤◌, true, false, List, length, Option, None, Result, Ok, Err, refl, sym, ap}
use Rattle.std.specs.Prelude.{IfOk, OnOk, IsErrOf, IsSome, is_some}
use Rattle.diag_shelf.specs.World.{State}
use Rattle.diag_shelf.specs.Calls.{Told, IsReadCall}
use Rattle.diag_shelf.specs.declared.shelf.ShelfFault.{ShelfFault}
use Rattle.diag_shelf.proofs.Steps.{read_unkept}
use Rattle.diag_shelf.specs.declared.shelf.ShelfFault.TheVariants as shelf
use Rattle.net_model.specs.Circuit.{Circuit}
use Rattle.result_records.specs.declared.limits.TheConstants.{RESULT_LIMIT}
use Rattle.result_records.specs.declared.record.Record.{Record}
use Rattle.result_file.specs.declared.fault.ResultFault.{ResultFault}
use Rattle.text_fields.specs.Fields.{Text}
use Rattle.result_records.specs.Spelling.{text_of}
use Rattle.result_file.specs.declared.checked.Checked.{Checked}
use Rattle.dia_check.specs.declared.answer.FileFault.{FileFault}
use Rattle.dia_check.specs.declared.answer.FileFault.TheVariants as file
use Rattle.dia_check.specs.declared.reader.Reader.{Reader}
use Rattle.dia_check.specs.Faults.{as_shelf, file_fault}
use Rattle.result_file.specs.Accepted.{IsAccepted, IsAcceptedText}
use Rattle.dia_check.specs.Left.{ReadsRest, rest_of}
use Rattle.dia_check.specs.Reader.{IsReading}
use Rattle.dia_check.specs.Rest.{HasRead}
use Rattle.dia_check.proofs.RestLemmas.{rest_read, rest_whole}

-- What holds whatever is returned.
pub on_any : {T P : Type 0} (result : Result T FileFault) → P → OnOk (as_shelf result) P
on_any (Ok x) p = p
on_any (Err (file.Result fault)) p = p
on_any (Err file.Failed) p = tt
on_any (Err file.NoMemory) p = tt

pub on_no_result : (P : Type 0) (e : FileFault) → ((fault : ResultFault) → ¬ (e ≡ file.Result fault)) → OnOk (as_shelf (let r : Result Checked FileFault = Err e in r)) P
on_no_result P (file.Result fault) never = absurd (never fault refl)
on_no_result P file.Failed never = tt
on_no_result P file.NoMemory never = tt

-- A result after a call that reads is no fault of the shelf, unless the call failed.
pub call_after : {T : Type 0} (result : Result T FileFault) {a b : State} → ¬ IsErrOf result file.Failed → IsReadCall {T = Unit {0}} (Ok tt) a b → IsReadCall (as_shelf result) a b
call_after (Ok x) never call = call
call_after (Err (file.Result fault)) never call = call
call_after (Err file.Failed) never call = absurd (never refl)
call_after (Err file.NoMemory) never call = read_unkept _ _ _ (record { tells = call.tells; sure = call.sure; reads = call.ok; writes = call.writes }) refl

abbrev out_of_memory : Result Checked FileFault
out_of_memory = Err file.NoMemory

pub memory_is_no_failure : ¬ IsErrOf out_of_memory file.Failed
memory_is_no_failure same = cc

pub memory_is_no_fault : (fault : ResultFault) → ¬ IsErrOf out_of_memory (file.Result fault)
memory_is_no_fault fault same = cc

pub accepted_is_no_fault : (checked : Checked) (fault : ResultFault) → ¬ IsErrOf (Ok checked) (file.Result fault)
accepted_is_no_fault checked fault same = cc

-- A sure shelf doesn't fail to read an opened file.
pub opened_never_fails : (e : ShelfFault) {rest : Option (List ℕ)} → (IsErrOf (let r : Result ℕ ShelfFault = Err e in r) shelf.Failed → rest ≡ None) → IsSome rest → ¬ IsErrOf (let r : Result (Unit {0}) FileFault = Err (file_fault e) in r) file.Failed
opened_never_fails shelf.Failed fails some same = let clash : false ≡ true = ap is_some (sym (fails refl)) ∙ some in cc
opened_never_fails shelf.NoMemory fails some same = cc

module _ {c : Circuit} {reader : Reader} {old new : State} (read : HasRead c reader old new) where
  pub told_read : Told old new ReadsRest
  told_read told = rest_read (read.all told) read.few

  pub valid_after : (result : Result Checked FileFault) → IfOk result (λ checked. (fed : Text) → IsReading c fed reader → (length fed ≤ RESULT_LIMIT) × IsAcceptedText c fed checked)
      → IfOk result (λ checked. (records : List Record) × IsAccepted c records checked × Told old new (λ old new. rest_of old ≡ text_of records))
  valid_after (Ok checked) ok =
      let both = ok read.fed read.reading in
      (both.1.records, both.1.accepted, λ told. rest_whole (read.all told) both.0 ∙ both.1.text_is)
  valid_after (Err e) ok = tt
