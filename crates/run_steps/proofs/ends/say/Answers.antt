use Rattle.std.proofs.Common.{Err, ap, ◌∙◌}
use Rattle.run_steps.specs.Ending.{done, write_fault}
use Rattle.run_steps.proofs.HandedOn.{mapped, all_well, fault_in}
use Rattle.run_steps.proofs.Runs.{ends_said, ends_said_part}
use Rattle.run_steps.proofs.ends.say.Goals as goal

pub returns : goal.returns
returns g c = elim (mapped write_fault c.print_all.result c.map_err.result c.map_err.ensures.cases) [
  | all_well x was now ↦ rw now (ends_said {ending = done} tt (rw was at c.print_all.ensures.call) (rw was at c.print_all.ensures.printed))
  | fault_in fault was now ↦ ends_said_part {meant = done} tt (rw was at c.print_all.ensures.call) (rw was at c.print_all.ensures.err) (λ s e. c.print_all.ensures.sure s (was ∙ ap Err e)) now
]
