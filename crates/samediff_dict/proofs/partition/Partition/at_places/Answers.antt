use Rattle.std.proofs.Common.{◌∙◌, ℕ, List, length, get_or, refl, ap, arith}
use Rattle.std.proofs.lemmas.List.{get_or_default}
use Rattle.samediff_dict.proofs.partition.Partition.at_places.Goals as goal

pub picked-requires : goal.picked-requires
picked-requires c = λ k d h. omega (arith, get_or_default c.args.places.now k d 0 h, c.requires.within k h, c.requires.one_each, ap length c.as_slice.ensures.value)

pub picked-requires-2 : goal.picked-requires-2
picked-requires-2 c = λ k d h. omega (arith, get_or_default c.args.places.now k d 0 h, c.requires.within k h, ap length c.as_slice-2.ensures.value)

pub returns : goal.returns
returns c = record {
  long = c.in_ok-picked.ensures.long;
  groups_long = c.in_ok-group_of.ensures.long;
  classes_are = λ k h. c.in_ok-picked.ensures.each k h ∙ ap (λ (xs : List ℕ). get_or xs (get_or c.args.places.now k 0) 0) c.as_slice-2.ensures.value;
  groups_are = λ k h. c.in_ok-group_of.ensures.each k h ∙ ap (λ (xs : List ℕ). get_or xs (get_or c.args.places.now k 0) 0) c.as_slice.ensures.value;
  count_is = refl;
}
