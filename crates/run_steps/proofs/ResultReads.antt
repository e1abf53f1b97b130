-- If the bytes that were read of a result's file are accepted they are all of the file; if they are refused the file
-- is.
use Rattle.std.proofs.Common.{◌≡◌, ◌+◌, ◌≤◌, ◌<◌, ◌++◌, Some, length, length-take, sym, ap, subst, ◌∙◌, inl, inr, arith}
use Rattle.std.specs.Prelude.{drop}
use Rattle.std.proofs.lemmas.Bool.{cases_lt}
use Rattle.std.proofs.lemmas.List.{take-append-drop}
use Rattle.diag_shelf.specs.Calls.{read_of}
use Rattle.net_model.specs.Circuit.{Circuit}
use Rattle.result_file.specs.declared.fault.ResultFault.{ResultFault}
use Rattle.result_file.specs.Refusal.{FileRefused}
use Rattle.result_file.specs.declared.checked.Checked.{Checked}
use Rattle.result_file.specs.Accepted.{IsAcceptedText}
use Rattle.dia_check.specs.Reader.{IsRefusedEnd}
use Rattle.text_fields.specs.Fields.{Text}
use Rattle.result_records.specs.declared.limits.TheConstants.{RESULT_LIMIT}
use Rattle.run_steps.specs.Texts.{result_text}
use Rattle.run_steps.specs.Results.{IsResult, IsRefusedResult}
use Rattle.run_steps.proofs.ReadLemmas.{read_whole, long_read, read_as_file, some_text}

-- Bytes that are accepted are all of the file.
pub result_read : {c : Circuit} {all bytes : Text} {checked : Checked} → bytes ≡ read_of RESULT_LIMIT all → IsAcceptedText c bytes checked → IsResult c all bytes
result_read {c} {all} {bytes} {checked} e is =
    let few : length bytes ≤ RESULT_LIMIT = subst (λ (t : Text). length t ≤ RESULT_LIMIT) (sym is.text_is) is.accepted.short in
    elim (cases_lt RESULT_LIMIT (length all)) [
      | inl long ↦ absurd (long_read RESULT_LIMIT all bytes e long few)
      | inr short ↦ record { same = sym (e ∙ read_whole RESULT_LIMIT all short); valid = record { records = is.records; text = is.text_is; valid = is.accepted.valid; short = few } }
    ]

-- A fault of the bytes that were read is a fault of the file.
refused_behind : {c : Circuit} {all bytes : Text} {fault : ResultFault} → bytes ≡ read_of RESULT_LIMIT all → IsRefusedEnd c bytes fault → FileRefused c all fault
refused_behind {c} {all} {bytes} {fault} e is = read_as_file {limit = RESULT_LIMIT} (λ (t : Text). FileRefused c t fault) e (λ long whole.
    let full : RESULT_LIMIT < length bytes = omega (arith, long, ap length e, length-take (RESULT_LIMIT + 1) all) in
    let rest = drop (RESULT_LIMIT + 1) all in
    let same : bytes ++ rest ≡ all = ap (λ (t : Text). t ++ rest) e ∙ take-append-drop (RESULT_LIMIT + 1) all in
    subst (λ (t : Text). FileRefused c t fault) same ((is.beyond full).refused rest)) is.whole

pub refused_result_read : {c : Circuit} {all bytes console : Text} {fault : ResultFault} → bytes ≡ read_of RESULT_LIMIT all → IsRefusedEnd c bytes fault → Some (result_text fault) ≡ Some console → IsRefusedResult c all console
refused_result_read {c} {all} {bytes} {console} {fault} e is said = record { fault = fault; refused = refused_behind e is; console_is = some_text said }
