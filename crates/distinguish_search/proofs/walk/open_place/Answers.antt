use Rattle.std.proofs.Common.{ℕ, List, length, subst}
use Rattle.distinguish_search.specs.Open.{AreDecided}
use Rattle.distinguish_search.proofs.Walks.{not_all_decided}
use Rattle.distinguish_search.proofs.walk.open_place.Goals as goal

pub unreachable-requires : goal.unreachable-requires
unreachable-requires c =
    let sim = c.args.sim.now in
    let late = subst (λ (reached : List ℕ). AreDecided sim.circuit sim.f sim.g sim.cube c.min-from.result (length reached)) c.reached-count.ensures.value c.in_default.ensures in
    not_all_decided sim.circuit sim.f sim.g sim.cube c.min-from.result c.requires late c.in-None.ensures
