use Rattle.std.proofs.Common.{refl, inl}
use Rattle.listing_commands.specs.Faults.{IsFaultsText}
use Rattle.run_steps.proofs.Followed.{handed_follows, follows_nothing}
use Rattle.run_steps.proofs.PlanEnds.{one_read, says_follows}
use Rattle.listing_commands.proofs.faults.print_faults.Goals as goal

pub returns-in_err-text : goal.returns-in_err-text
returns-in_err-text g c = handed_follows c.from_residual.result c.from_residual.ensures.1 (follows_nothing (g.S.Shelf.state c.args.shelf.now) one_read.breaks)

pub returns : goal.returns
returns g c = says_follows (IsFaultsText c.args.design.now) one_read.breaks (inl refl) c.in_ok-text.ensures (rw c.deref.ensures.value at c.say.ensures)
