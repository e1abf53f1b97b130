use Rattle.sim_listing.specs.RootPlaces.{AreOwnPlaces}
use Rattle.sim_listing.proofs.roots.own_roots.Given as goal

abbrev pub invariant-loop-number : goal.invariant-loop-number
invariant-loop-number l = AreOwnPlaces l.all l.number l.found.roots.items l.found.places.items
