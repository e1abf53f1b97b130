use Rattle.std.proofs.Common.{◌≡◌, ◌∙◌, ◌<◌, ℕ, List, length, get_or, sym, ap, subst, arith}
use Rattle.std.proofs.lemmas.List.{get_or_default}
use Rattle.std.proofs.lemmas.Result.{IfOk-weaker}
use Rattle.samediff_dict.specs.Moved.{AreAtPlaces, AreMixedPlaces, HasMixedOf}
use Rattle.samediff_dict.specs.Partition.{IsListed}
use Rattle.samediff_dict.proofs.ListedLemmas.{listed_few}
use Rattle.samediff_dict.proofs.MovedLemmas.{has_mixed, mixed_listed}
use Rattle.samediff_dict.proofs.partition.Partition.mixed.Goals as goal
use Rattle.samediff_dict.proofs.partition.Partition.mixed.Goals.{After-as_slice-2, After-as_slice-3}

pub numbers_at-requires : goal.numbers_at-requires
numbers_at-requires c = λ k d h.
    let inside : k < length c.args.self.now.classes.items = omega (arith, h, ap length c.as_slice.ensures.value) in
    omega (arith, get_or_default c.as_slice.result.now k d 0 h, ap (λ (xs : List ℕ). get_or xs k 0) c.as_slice.ensures.value, c.requires.listed.below k inside)

-- the numbers of the listed classes
module _ (c : After-as_slice-2) where
  own_long : length c.as_slice-2.result.now ≡ length c.args.self.now.classes.items
  own_long = ap length c.as_slice-2.ensures.value ∙ (c.in_ok-own_numbers.ensures.long ∙ ap length c.as_slice.ensures.value)

  own_are : (k : ℕ) → k < length c.args.self.now.classes.items → get_or c.as_slice-2.result.now k 0 ≡ get_or c.args.step.numbers.now (get_or c.args.self.now.classes.items k 0) 0
  own_are k h =
      ap (λ (xs : List ℕ). get_or xs k 0) c.as_slice-2.ensures.value
      ∙ (c.in_ok-own_numbers.ensures.each k (omega (arith, h, ap length c.as_slice.ensures.value)) ∙ ap (λ (xs : List ℕ). get_or c.args.step.numbers.now (get_or xs k 0) 0) c.as_slice.ensures.value)

pub mixed-requires-clause-long : goal.mixed-requires-clause-long
mixed-requires-clause-long c = omega (arith, own_long (goal.at.mixed-requires-clause-long c).After-as_slice-2, c.requires.listed.one_each)

pub mixed-requires-clause-few : goal.mixed-requires-clause-few
mixed-requires-clause-few c = omega (arith, listed_few c.requires.listed, c.requires.few, c.requires.listed.one_each)

-- the places of the groups with a mixed pair
places_are : (c : After-as_slice-3) → AreMixedPlaces c.args.self.now.groups.group_of.items c.as_slice-2.result.now c.args.step.old c.args.step.new c.as_slice-3.result.now
places_are c = subst (λ (xs : List ℕ). AreMixedPlaces c.args.self.now.groups.group_of.items c.as_slice-2.result.now c.args.step.old c.args.step.new xs) (sym c.as_slice-3.ensures.value) c.in_ok-places.ensures

pub at_places-requires-clause-within : goal.at_places-requires-clause-within
at_places-requires-clause-within c = λ k h. omega (arith, (places_are (goal.at.at_places-requires-clause-within c).After-as_slice-3).below k h, c.requires.listed.one_each)

pub returns-clause-listed : goal.returns-clause-listed
returns-clause-listed c =
    let at = goal.at.returns-clause-listed c in
    let numbers = c.args.step.numbers.now in
    IfOk-weaker c.at_places.result (AreAtPlaces c.args.self.now c.as_slice-3.result.now) (IsListed (length numbers))
    (λ part are. mixed_listed numbers c.args.step.old c.args.step.new c.requires.listed c.as_slice-2.result.now (own_are at.After-as_slice-2) c.as_slice-3.result.now (places_are at.After-as_slice-3) are) c.at_places.ensures

pub returns-clause-has : goal.returns-clause-has
returns-clause-has c =
    let at = goal.at.returns-clause-has c in
    let numbers = c.args.step.numbers.now in
    IfOk-weaker c.at_places.result (AreAtPlaces c.args.self.now c.as_slice-3.result.now) (λ part. HasMixedOf (length numbers) c.args.self.now part numbers c.args.step.old c.args.step.new)
    (λ part are. has_mixed numbers c.args.step.old c.args.step.new c.requires.listed c.as_slice-2.result.now (own_are at.After-as_slice-2) c.as_slice-3.result.now (places_are at.After-as_slice-3) are) c.at_places.ensures
