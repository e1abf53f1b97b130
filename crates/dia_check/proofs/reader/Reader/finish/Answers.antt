use Rattle.std.proofs.Common.{◌≡◌, subst}
use Rattle.std.proofs.lemmas.Result.{err_from_is_err_and}
use Rattle.result_file.specs.declared.fault.ResultFault.{ResultFault}
use Rattle.dia_check.specs.Reader.{IsRefusedEnd}
use Rattle.dia_check.proofs.AnswerLemmas.{memory_is_no_fault, accepted_is_no_fault}
use Rattle.dia_check.proofs.ReaderLemmas.{refused_end, end_refused, end_accepted}
use Rattle.dia_check.proofs.reader.Reader.finish.Goals as goal

pub returns-in-Some-clause-refused : goal.returns-in-Some-clause-refused
returns-in-Some-clause-refused c = λ fault same fed is.
    let e : c.in-Some.fault ≡ fault = cc in
    subst (λ (f : ResultFault). IsRefusedEnd c.args.subject.now fed f) e (refused_end (is.refused c.in-Some.fault c.in-Some.is))

pub end-requires-clause-one : goal.end-requires-clause-one
end-requires-clause-one c = rw c.rest.ensures (c.requires.is.going c.in_default.is).one

pub returns-in-Err-Refused-clause-refused : goal.returns-in-Err-Refused-clause-refused
returns-in-Err-Refused-clause-refused c = λ fault same fed is.
    let e : c.in-Err-Refused.fault ≡ fault = cc in
    let judges = rw c.in-Err-Refused.field-0-is at c.in-Err-Refused.ensures in
    subst (λ (f : ResultFault). IsRefusedEnd c.args.subject.now fed f) e (end_refused (is.going c.in_default.is) c.rest.ensures judges)

pub returns-in-Ok-clause-valid : goal.returns-in-Ok-clause-valid
returns-in-Ok-clause-valid c = λ fed is. end_accepted (is.going c.in_default.is) c.rest.ensures c.in-Ok.ensures c.in_ok-into_checked-in-Ok.ensures

pub returns-in-Ok-clause-refused : goal.returns-in-Ok-clause-refused
returns-in-Ok-clause-refused c = λ fault same. absurd (accepted_is_no_fault c.in_ok-into_checked-in-Ok.field-0 fault same)

pub returns-in_err-into_checked-in-Ok-clause-refused : goal.returns-in_err-into_checked-in-Ok-clause-refused
returns-in_err-into_checked-in-Ok-clause-refused c =
    let p = err_from_is_err_and c.from_residual.result c.from_residual.ensures.1 in
    rw (p.1, p.2) (λ fault same. absurd (memory_is_no_fault fault same))

pub returns-clause-refused : goal.returns-clause-refused
returns-clause-refused c = λ fault same. absurd (memory_is_no_fault fault same)
