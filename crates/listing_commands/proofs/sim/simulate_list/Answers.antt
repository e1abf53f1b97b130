use Rattle.std.proofs.Common.{◌≡◌, List, Bool, All, length, refl, sym, subst, inl, inr}
use Rattle.sim_listing.specs.SimText.{IsSimText}
use Rattle.run_steps.proofs.Followed.{ends_at_file, goes_on}
use Rattle.run_steps.proofs.PlanEnds.{list_read, says_follows}
use Rattle.listing_commands.proofs.SimLemmas.{PrintsText}
use Rattle.listing_commands.proofs.sim.simulate_list.Goals as goal

pub print_simulation-requires : goal.print_simulation-requires
print_simulation-requires g c = subst (All (λ v. length v ≡ c.args.circuit.now.sources)) (sym c.as_slice.ensures) c.in_ok-vectors.ensures.wide

pub returns : goal.returns
returns g c =
    let circuit = c.args.circuit.now in
    let printed = subst (λ (vs : List (List Bool)). PrintsText circuit vs c.print_simulation.result (g.S.Shelf.state c.read_list.new.shelf) (g.S.Shelf.state c.print_simulation.new.shelf)) c.as_slice.ensures c.print_simulation.ensures in
    goes_on c.in_ok-vectors.ensures.ok (g.met.S.Shelf.sure_tells _) (says_follows (IsSimText circuit c.in_ok-vectors.vectors) list_read.breaks (inl refl) printed.1 printed.2)

pub returns-in_err-vectors : goal.returns-in_err-vectors
returns-in_err-vectors g c = ends_at_file list_read (inr (inr (inl refl))) c.from_residual.result c.from_residual.ensures.1 c.in_err-vectors.ensures.err
