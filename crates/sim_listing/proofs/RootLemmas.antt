-- The roots of numbers, and their places.
use Rattle.std.proofs.Common.{◌≡◌, ◌∙◌, ℕ, ◌<◌, List, length, get_or, map, ap}
use Rattle.std.proofs.lemmas.List.{get_or-map, length-map}
use Rattle.fault_collapse.specs.Forest.{Forest}
use Rattle.fault_collapse.specs.ForestFields.{AreForestFields}
use Rattle.sim_listing.specs.RootPlaces.{AreOwnPlaces, AreRootPlaces}

-- the place of each number's root
pub root_places_are : (forest : Forest) (roots own places : List ℕ) → AreForestFields forest → AreOwnPlaces forest.roots (length forest.roots) roots own → places ≡ map (λ root. get_or own root 0) forest.roots → AreRootPlaces forest.roots roots places
root_places_are forest roots own places fields are is =
    let all = forest.roots in
    let place : (n : ℕ) → n < length all → get_or places n 0 ≡ get_or own (get_or all n 0) 0 = λ n h. ap (λ (ps : List ℕ). get_or ps n 0) is ∙ get_or-map (λ root. get_or own root 0) all n 0 0 h in
    record {
      one_each = ap length is ∙ length-map all (λ root. get_or own root 0);
      few = are.few;
      known = are.known;
      within = λ n h. rw (place n h) (are.within (get_or all n 0) (fields.inside n h) (fields.last n h));
      own = λ n h. rw (place n h) (are.own (get_or all n 0) (fields.inside n h) (fields.last n h));
    }
