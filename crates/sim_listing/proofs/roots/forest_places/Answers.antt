use Rattle.std.proofs.Common.{◌≡◌, ◌∙◌, ℕ, List, length, get_or, map, subst}
use Rattle.sim_listing.specs.RootPlaces.{AreOwnPlaces}
use Rattle.sim_listing.proofs.RootLemmas.{root_places_are}
use Rattle.sim_listing.proofs.roots.forest_places.Goals as goal

pub returns : goal.returns
returns c =
    let forest = c.args.forest.now in
    let roots = c.in_ok-roots.field-0.roots.items in
    let own = c.in_ok-roots.field-0.places.items in
    let slice : c.as_slice.result.now ≡ own = c.as_slice.ensures.value in
    root_places_are forest roots own c.in_ok-places.places.items c.requires
    (subst (λ (all : List ℕ). AreOwnPlaces all (length all) roots own) c.roots-all.ensures c.in_ok-roots.ensures)
    (c.in_ok-places.ensures ∙ (λ i. map (λ root. get_or (slice i) root 0) (c.roots-all.ensures i)))
