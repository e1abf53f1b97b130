use Rattle.std.proofs.Common.{refl, inl, inr}
use Rattle.run_steps.proofs.CheckedLemmas.{checked_widths, checked_table}
use Rattle.run_steps.proofs.Followed.{ends_at_file, goes_on}
use Rattle.run_steps.proofs.PlanEnds.{three_read}
use Rattle.listing_commands.proofs.bridges.bridges_for.Goals as goal

pub returns-in_err-checked : goal.returns-in_err-checked
returns-in_err-checked g c = ends_at_file three_read (inr (inr (inl refl))) c.from_residual.result c.from_residual.ensures.1 c.in_err-checked.ensures.err

pub bridges_at-requires-clause-named : goal.bridges_at-requires-clause-named
bridges_at-requires-clause-named g c = c.requires

pub bridges_at-requires-clause-widths : goal.bridges_at-requires-clause-widths
bridges_at-requires-clause-widths g c = checked_widths c.in_ok-checked.ensures.ok.1

pub bridges_at-requires-clause-table : goal.bridges_at-requires-clause-table
bridges_at-requires-clause-table g c = checked_table c.in_ok-checked.ensures.ok.1

pub returns : goal.returns
returns g c =
    let read = c.in_ok-checked.ensures.ok in
    goes_on read.2 (g.met.S.Shelf.sure_tells _) (c.bridges_at.ensures read.0 read.1)
