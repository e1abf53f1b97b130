use Rattle.std.proofs.Common.{◌≡◌, get_or, map, take}
use Rattle.sim_listing.proofs.roots.places_of.Given as goal

abbrev pub invariant-loop-root : goal.invariant-loop-root
invariant-loop-root l = l.places.items ≡ map (λ root. get_or l.own root 0) (take l.root-index l.all)
