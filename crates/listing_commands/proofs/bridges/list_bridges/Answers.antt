use Rattle.std.proofs.Common.{refl, inl, inr}
use Rattle.run_steps.proofs.Followed.{ends_at_file, goes_on, no_memory_after}
use Rattle.run_steps.proofs.PlanEnds.{three_read}
use Rattle.listing_commands.proofs.bridges.list_bridges.Goals as goal

pub returns-in_err-design : goal.returns-in_err-design
returns-in_err-design g c = ends_at_file three_read (inr (inl refl)) c.from_residual.result c.from_residual.ensures.1 c.in_err-design.ensures.err

pub returns-in_err-subject : goal.returns-in_err-subject
returns-in_err-subject g c =
    no_memory_after c.in_ok-design.ensures.ok three_read c.from_residual-in_err-subject.result c.from_residual-in_err-subject.ensures.1 (g.met.S.Shelf.sure_tells _)

pub bridges_for-requires : goal.bridges_for-requires
bridges_for-requires g c = rw c.in_ok-subject.ensures c.in_ok-design.ensures.named

pub returns : goal.returns
returns g c = goes_on c.in_ok-design.ensures.ok (g.met.S.Shelf.sure_tells _) (rw c.in_ok-subject.ensures at c.bridges_for.ensures)
