use Rattle.std.proofs.Common.{refl, inl, inr}
use Rattle.run_steps.proofs.Followed.{ends_at_file, goes_on}
use Rattle.run_steps.proofs.PlanEnds.{one_read}
use Rattle.result_commands.proofs.Generated.{saved_follows}
use Rattle.result_commands.proofs.generate.generate_file.Goals as goal

pub returns-in_err-design : goal.returns-in_err-design
returns-in_err-design g c = ends_at_file one_read (inr (inl refl)) c.from_residual.result c.from_residual.ensures.1 c.in_err-design.ensures.err

pub returns : goal.returns
returns g c =
    goes_on c.in_ok-design.ensures.ok (g.met.S.Shelf.sure_tells _) (saved_follows c.args.output.now one_read.breaks (inl refl) (inl refl) c.save_result.ensures)
