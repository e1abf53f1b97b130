use Rattle.table_dicts.proofs.RootLemmas.{settled}
use Rattle.sim_listing.proofs.EqualRoots.{equal_roots}
use Rattle.sim_listing.proofs.roots.root_places.Goals as goal

pub forest_places-requires : goal.forest_places-requires
forest_places-requires c = settled c.forest.ensures

pub returns : goal.returns
returns c = equal_roots c.args.subject.now c.forest.result.now c.in_ok-found.found.roots.items c.in_ok-found.found.places.items c.forest.ensures c.in_ok-found.ensures
