use Rattle.std.proofs.Common.{◌∙◌}
use Rattle.run_steps.specs.Steps.{by_reading}
use Rattle.run_steps.proofs.HandedOn.{handed_err}
use Rattle.run_steps.proofs.Followed.{was_accepted, over_said}
use Rattle.run_steps.proofs.reads.read_judged.Goals as goal

pub returns-in_err-bytes-clause-err : goal.returns-in_err-bytes-clause-err
returns-in_err-bytes-clause-err g c = handed_err _ c.from_residual.result c.from_residual.ensures.1 (by_reading c.in_err-bytes.ensures.err)

pub returns-in-Ok-clause-ok : goal.returns-in-Ok-clause-ok
returns-in-Ok-clause-ok g c = was_accepted c.in_ok-bytes.ensures.ok (λ all read. record { bytes = c.deref.result; read = c.deref.ensures.value ∙ read; answered = c.in-Ok.ensures })

pub returns-clause-err : goal.returns-clause-err
returns-clause-err g c =
    let was = c.in_ok-bytes.ensures.ok in
    over_said was.facts was.only was.left (λ text is told. let r = was.held told in (r.0, r.1, record { bytes = c.deref.result; read = c.deref.ensures.value ∙ r.2; fault = c.in-Err.fault; answered = c.in-Err.ensures; console_is = is })) c.say_fault.ensures
