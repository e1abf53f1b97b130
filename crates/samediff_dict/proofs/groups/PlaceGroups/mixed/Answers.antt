use Rattle.std.proofs.Common.{◌≡◌, ◌∙◌, Bool, List, length, ap}
use Rattle.std.specs.Prelude.{filter}
use Rattle.std.specs.List.{range_with_len}
use Rattle.std.proofs.lemmas.Result.{IfOk-weaker}
use Rattle.samediff_dict.specs.Moved.{AreMixedPlaces, has_both_sides}
use Rattle.samediff_dict.proofs.MovedLemmas.{mixed_places}
use Rattle.samediff_dict.proofs.groups.PlaceGroups.mixed.Goals as goal

pub two_sided-requires-clause-long : goal.two_sided-requires-clause-long
two_sided-requires-clause-long c = ap length c.as_slice.ensures.value ∙ c.in_ok-sides.ensures.long

pub returns : goal.returns
returns c =
    let groups = c.args.self.now.group_of.items in
    IfOk-weaker c.two_sided.result (λ places. places.items ≡ filter (has_both_sides groups c.as_slice.result.now) (range_with_len 0 (length groups)))
    (λ places. AreMixedPlaces groups c.args.numbers.now c.args.old c.args.new places.items)
    (λ places is. mixed_places c.in_ok-sides.ensures places.items (is ∙ ap (λ (sides : List Bool). filter (has_both_sides groups sides) (range_with_len 0 (length groups))) c.as_slice.ensures.value)) c.two_sided.ensures
