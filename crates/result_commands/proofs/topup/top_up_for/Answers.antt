use Rattle.std.proofs.Common.{◌≡◌, [], All, length, refl, sym, subst, inl, inr}
use Rattle.run_steps.proofs.Followed.{ends_at_file, goes_on}
use Rattle.run_steps.proofs.PlanEnds.{list_read}
use Rattle.result_commands.specs.Plans.{IsToppedUpFile, SavesResult}
use Rattle.result_commands.proofs.Generated.{saved_follows}
use Rattle.result_commands.proofs.topup.top_up_for.Goals as goal

pub save_topped-requires-clause-widths : goal.save_topped-requires-clause-widths
save_topped-requires-clause-widths g c = subst (All (λ v. length v ≡ c.args.circuit.now.sources)) (sym c.as_slice.ensures) c.in_ok-list.ensures.wide

pub returns-in_err-list : goal.returns-in_err-list
returns-in_err-list g c = ends_at_file list_read (inr (inr (inl refl))) c.from_residual.result c.from_residual.ensures.1 c.in_err-list.ensures.err

pub returns : goal.returns
returns g c =
    let circuit = c.args.circuit.now in
    let saves : SavesResult circuit (IsToppedUpFile circuit c.in_ok-list.list c.args.budgets) [] c.args.output.now c.save_topped.result (g.S.Shelf.state c.read_vector_list.new.shelf) (g.S.Shelf.state c.save_topped.new.shelf) = rw c.as_slice.ensures at c.save_topped.ensures in
    goes_on c.in_ok-list.ensures.ok (g.met.S.Shelf.sure_tells _) (saved_follows c.args.output.now list_read.breaks (inl refl) (inl refl) saves)
