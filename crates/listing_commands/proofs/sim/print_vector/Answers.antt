use Rattle.std.proofs.Common.{◌+◌}
use Rattle.std.specs.Prelude.{slice_range}
use Rattle.run_steps.specs.Ending.{done}
use Rattle.run_steps.proofs.Runs.{ends_silent, handed_ends}
use Rattle.sim_listing.proofs.TextLemmas.{one_text}
use Rattle.listing_commands.proofs.sim.print_vector.Goals as goal

pub returns-in_err-text-clause-said : goal.returns-in_err-text-clause-said
returns-in_err-text-clause-said g c =
    let number = c.args.number in
    let one = one_text c.args.texts.now.circuit c.requires.circuit number (slice_range c.args.texts.now.vectors number (number + 1)) in
    (one.text, one.is, handed_ends c.from_residual.result c.from_residual.ensures.1 (ends_silent {meant = done} tt))

pub returns-clause-said : goal.returns-clause-said
returns-clause-said g c = (c.as_bytes.result.now, rw c.as_bytes.ensures.value c.in_ok-text.ensures.text, c.say.ensures)
