use Rattle.std.proofs.Common.{refl}
use Rattle.run_steps.specs.Steps.{by_text, by_want}
use Rattle.run_steps.proofs.reads.say_fault.Goals as goal

pub returns-in-Ok : goal.returns-in-Ok
returns-in-Ok g c = by_text c.in-Ok.text.items c.in-Ok.ensures (rw c.deref.ensures.value at c.refuse.ensures)

pub returns-in-Err : goal.returns-in-Err
returns-in-Err g c = by_want refl refl
