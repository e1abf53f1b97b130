use Rattle.std.proofs.Common.{refl, inl, inr}
use Rattle.run_steps.proofs.Followed.{ends_at_file, goes_on, no_memory_after}
use Rattle.run_steps.proofs.PlanEnds.{two_read}
use Rattle.result_commands.proofs.compact.compact_result.Goals as goal

pub returns-in_err-design : goal.returns-in_err-design
returns-in_err-design g c = ends_at_file two_read (inr (inl refl)) c.from_residual.result c.from_residual.ensures.1 c.in_err-design.ensures.err

pub returns-in_err-subject : goal.returns-in_err-subject
returns-in_err-subject g c =
    no_memory_after c.in_ok-design.ensures.ok two_read c.from_residual-in_err-subject.result c.from_residual-in_err-subject.ensures.1 (g.met.S.Shelf.sure_tells _)

pub returns : goal.returns
returns g c = goes_on c.in_ok-design.ensures.ok (g.met.S.Shelf.sure_tells _) (rw c.in_ok-subject.ensures at c.compact_for.ensures)
