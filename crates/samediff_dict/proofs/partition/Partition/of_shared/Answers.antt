use Rattle.std.proofs.Common.{◌≡◌, ◌∙◌, ◌<◌, ℕ, List, length, get_or, refl, ap, sym, subst, arith}
use Rattle.samediff_dict.specs.PlaceGroups.{is_shared, shared_places}
use Rattle.samediff_dict.proofs.SharingLemmas.{filter_below}
use Rattle.samediff_dict.proofs.partition.Partition.of_shared.Goals as goal
use Rattle.samediff_dict.proofs.partition.Partition.of_shared.Goals.{After-as_slice-shared}

places_are : (c : After-as_slice-shared) → c.as_slice-shared.result.now ≡ shared_places c.args.groups.now.group_of.items
places_are c = c.as_slice-shared.ensures.value ∙ c.in_ok-places.ensures

places_within : (c : After-as_slice-shared) (k d : ℕ) → k < length c.as_slice-shared.result.now → get_or c.as_slice-shared.result.now k d < length c.args.groups.now.group_of.items
places_within c =
    let group_of = c.args.groups.now.group_of.items in
    subst (λ (xs : List ℕ). (k d : ℕ) → k < length xs → get_or xs k d < length group_of) (sym (places_are c)) (filter_below (is_shared group_of) (length group_of))

pub picked-requires : goal.picked-requires
picked-requires c = λ k d h. omega (arith, places_within (goal.at.picked-requires c).After-as_slice-shared k d h, ap length c.as_slice.ensures.value)

pub picked-requires-2 : goal.picked-requires-2
picked-requires-2 c = λ k d h. omega (arith, places_within (goal.at.picked-requires-2 c).After-as_slice-shared k d h, c.requires.one_each)

pub returns : goal.returns
returns c =
    let are = places_are (goal.at.returns c).After-as_slice-shared in
    record {
      long = c.in_ok-picked.ensures.long ∙ ap length are;
      groups_long = c.in_ok-group_of.ensures.long ∙ ap length are;
      classes_are = λ k h. c.in_ok-picked.ensures.each k (omega (arith, h, ap length are)) ∙ ap (λ (xs : List ℕ). get_or c.args.classes.now (get_or xs k 0) 0) are;
      groups_are = λ k h. c.in_ok-group_of.ensures.each k (omega (arith, h, ap length are)) ∙ (λ i. get_or (c.as_slice.ensures.value i) (get_or (are i) k 0) 0);
      count_is = refl;
    }
