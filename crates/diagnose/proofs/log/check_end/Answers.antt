use Rattle.std.proofs.Common.{refl}
use Rattle.diagnose.proofs.LogLemmas.{refuse_more}
use Rattle.diagnose.proofs.log.check_end.Goals as goal

pub returns-in-Some : goal.returns-in-Some
returns-in-Some c = λ patterns positions.
    let line = c.in-Some.field-0 in
    refuse_more patterns positions patterns c.args.rest.now line.pattern line.digits.now line.rest.now c.in-Some.ensures refl
