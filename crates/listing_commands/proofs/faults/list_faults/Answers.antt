use Rattle.std.proofs.Common.{refl, inl, inr}
use Rattle.run_steps.proofs.Followed.{ends_at_file, goes_on}
use Rattle.run_steps.proofs.PlanEnds.{one_read}
use Rattle.listing_commands.proofs.faults.list_faults.Goals as goal

pub returns-in_err-design : goal.returns-in_err-design
returns-in_err-design g c = ends_at_file one_read (inr (inl refl)) c.from_residual.result c.from_residual.ensures.1 c.in_err-design.ensures.err

pub print_faults-requires : goal.print_faults-requires
print_faults-requires g c = c.in_ok-design.ensures.named

pub returns : goal.returns
returns g c = goes_on c.in_ok-design.ensures.ok (g.met.S.Shelf.sure_tells _) c.print_faults.ensures
