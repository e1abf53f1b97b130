use Rattle.std.proofs.Common.{ap, Err}
use Rattle.run_steps.proofs.Runs.{ends_said, ends_said_part}
use Rattle.run_steps.proofs.ends.refuse.Goals as goal

pub returns-in-Ok : goal.returns-in-Ok
returns-in-Ok g c = ends_said c.requires c.in-Ok.ensures.call c.in-Ok.ensures.printed

pub returns-in-Err : goal.returns-in-Err
returns-in-Err g c =
    ends_said_part c.requires c.in-Err.ensures.call c.in-Err.ensures.err (λ s e. c.in-Err.ensures.sure s (ap Err e)) (ap Err c.write_fault.ensures)
