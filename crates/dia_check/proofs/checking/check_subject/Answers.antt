use Rattle.std.proofs.Common.{◌≡◌, Result, Err, refl, ap}
use Rattle.result_file.specs.declared.fault.ResultFault.{ResultFault}
use Rattle.diag_shelf.specs.Calls.{Told}
use Rattle.diag_shelf.proofs.Steps.{facts_same, read_unkept, on_error}
use Rattle.dia_check.specs.Left.{ReadsRest}
use Rattle.dia_check.specs.Faults.{as_shelf}
use Rattle.dia_check.specs.declared.answer.FileFault.{FileFault}
use Rattle.dia_check.specs.declared.answer.FileFault.TheVariants as file
use Rattle.std.proofs.lemmas.Result.{err_from_is_err_and}
use Rattle.dia_check.proofs.RestLemmas.{takes_few, reads_nothing, text_refused}
use Rattle.dia_check.proofs.AnswerLemmas.{on_any, on_no_result, call_after, told_read, valid_after}
use Rattle.dia_check.proofs.checking.check_subject.Goals as goal

pub returns-in_err-read_rest-clause-call : goal.returns-in_err-read_rest-clause-call
returns-in_err-read_rest-clause-call g c =
    let p = err_from_is_err_and c.from_residual-in_err-read_rest.result c.from_residual-in_err-read_rest.ensures.1 in
    rw (p.1, p.2) c.in_err-read_rest.ensures.call

pub returns-in_err-read_rest-clause-refused : goal.returns-in_err-read_rest-clause-refused
returns-in_err-read_rest-clause-refused g c =
    let p = err_from_is_err_and c.from_residual-in_err-read_rest.result c.from_residual-in_err-read_rest.ensures.1 in
    rw (p.1, p.2) (λ fault same.
    let e : c.in_err-read_rest.field-0.0 ≡ file.Result fault = cc in
    absurd (c.in_err-read_rest.ensures.result fault (ap (λ (x : FileFault). let r : Result (Unit {0}) FileFault = Err x in r) e)))

pub returns-clause-read : goal.returns-clause-read
returns-clause-read g c = on_any c.finish.result (told_read c.in_ok-read_rest.ensures.read)

pub returns-clause-valid : goal.returns-clause-valid
returns-clause-valid g c = valid_after c.in_ok-read_rest.ensures.read c.finish.result c.finish.ensures.valid

pub returns-clause-refused : goal.returns-clause-refused
returns-clause-refused g c = λ fault same.
    let read = c.in_ok-read_rest.ensures.read in
    text_refused (g.S.Shelf.state c.args.shelf.now).tells read.all (c.finish.ensures.refused fault same read.fed read.reading)

pub returns-clause-err : goal.returns-clause-err
returns-clause-err g c =
    let read = c.in_ok-read_rest.ensures.read in
    on_error (as_shelf c.finish.result) (λ told. takes_few (c.requires.opened told) (c.in_ok-read_rest.ensures.others told) (read.all told).taken read.few)

pub returns-in_err-read_rest-clause-err : goal.returns-in_err-read_rest-clause-err
returns-in_err-read_rest-clause-err g c = on_error (as_shelf c.from_residual-in_err-read_rest.result) c.in_err-read_rest.ensures.err

pub returns-in_err-reader-clause-err : goal.returns-in_err-reader-clause-err
returns-in_err-reader-clause-err g c = on_error (as_shelf c.from_residual.result) (λ told. reads_nothing _ _ (c.requires.opened told))

pub returns-in_err-reader-clause-call : goal.returns-in_err-reader-clause-call
returns-in_err-reader-clause-call g c =
    let p = err_from_is_err_and c.from_residual.result c.from_residual.ensures.1 in
    rw (p.1, p.2) (read_unkept _ _ _ (facts_same _) refl)

pub returns-in_err-read_rest-clause-read : goal.returns-in_err-read_rest-clause-read
returns-in_err-read_rest-clause-read g c =
    let p = err_from_is_err_and c.from_residual-in_err-read_rest.result c.from_residual-in_err-read_rest.ensures.1 in
    let never = λ (fault : ResultFault) (e : c.in_err-read_rest.field-0.0 ≡ file.Result fault). c.in_err-read_rest.ensures.result fault (ap (λ (x : FileFault). let r : Result (Unit {0}) FileFault = Err x in r) e) in
    rw (p.1, p.2) (on_no_result (Told (g.S.Shelf.state c.args.shelf.now) (g.S.Shelf.state c.read_rest.new.shelf) ReadsRest) c.in_err-read_rest.field-0.0 never)

pub returns-clause-call : goal.returns-clause-call
returns-clause-call g c = call_after c.finish.result c.finish.ensures.never c.in_ok-read_rest.ensures.call
