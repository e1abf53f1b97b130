use Rattle.std.proofs.Common.{Err, ap}
use Rattle.result_file.specs.Accepted.{IsAcceptedText}
use Rattle.dia_check.specs.Reader.{IsRefusedEnd}
use Rattle.run_steps.specs.Steps.{by_reading}
use Rattle.run_steps.proofs.HandedOn.{handed_err}
use Rattle.run_steps.proofs.ResultReads.{result_read, refused_result_read}
use Rattle.run_steps.proofs.Followed.{was_accepted, over_said, over_memory}
use Rattle.run_steps.proofs.results.read_whole_result.Goals as goal

pub returns-in_err-bytes-clause-err : goal.returns-in_err-bytes-clause-err
returns-in_err-bytes-clause-err g c = handed_err _ c.from_residual.result c.from_residual.ensures.1 (by_reading c.in_err-bytes.ensures.err)

pub returns-in-Ok-clause-accepted : goal.returns-in-Ok-clause-accepted
returns-in-Ok-clause-accepted g c = rw c.deref.ensures.value at c.in-Ok.ensures.valid

pub returns-in-Ok-clause-ok : goal.returns-in-Ok-clause-ok
returns-in-Ok-clause-ok g c =
    let is : IsAcceptedText c.args.subject.now c.in_ok-bytes.bytes.items c.in-Ok.checked = rw c.deref.ensures.value at c.in-Ok.ensures.valid in
    was_accepted c.in_ok-bytes.ensures.ok (λ all read. result_read read is)

pub returns-in-Err-Result-clause-err : goal.returns-in-Err-Result-clause-err
returns-in-Err-Result-clause-err g c =
    let fault = c.in-Err-Result.fault in
    let is : IsRefusedEnd c.args.subject.now c.in_ok-bytes.bytes.items fault = rw c.deref.ensures.value at (c.in-Err-Result.ensures.refused fault (ap Err c.in-Err-Result.field-0-is)) in
    let was = c.in_ok-bytes.ensures.ok in
    over_said was.facts was.only was.left (λ text said told. let read = was.held told in (read.0, read.1, refused_result_read read.2 is said)) c.say_fault.ensures

pub returns-clause-err : goal.returns-clause-err
returns-clause-err g c = over_memory c.in_ok-bytes.ensures.ok.facts c.in_ok-bytes.ensures.ok.only
