use Rattle.std.proofs.Common.{◌≡◌, ◌∙◌, ◌<◌, ◌+◌, ◌*◌, Bool, false, cond, length, get_or, replicate, ap, subst, arith}
use Rattle.std.proofs.lemmas.List.{length-replicate}
use Rattle.samediff_dict.specs.Moved.{AreSides, is_moved, side_at}
use Rattle.samediff_dict.proofs.MovedLemmas.{side-few, sides_more}
use Rattle.samediff_dict.proofs.groups.PlaceGroups.sides.Goals as goal
use Rattle.samediff_dict.proofs.groups.PlaceGroups.sides.Goals.{After-side_of-side}

pub loop-place-init : goal.loop-place-init
loop-place-init c =
    let made : c.in_ok-sides.sides.items ≡ replicate {A = Bool} (2 * c.args.self.now.count) false = c.in_ok-sides.ensures.items_if_clones_equal (λ y e. e) in
    record { long = ap length made ∙ length-replicate {A = Bool} (2 * c.args.self.now.count) false; marked = λ k h. absurd (omega (arith, h)) }

-- where the side of this turn's place is marked
side_is : (c : After-side_of-side) → c.side_of-side.result ≡ side_at c.args.self.now.group_of.items c.args.numbers.now c.args.old c.args.new c.loop-place.place
side_is c =
    let place = c.loop-place.place in
    c.side_of-side.ensures ∙ (λ i. 2 * get_or (c.as_slice-groups.ensures.value i) place 0 + cond (c.is_either.ensures i) 0 1)

inside : (c : After-side_of-side) → c.side_of-side.result < length c.loop-place.sides.items
inside c =
    let place = c.loop-place.place in
    let known = c.requires.within place (omega (arith, ap length c.as_slice-groups.ensures.value)) in
    omega (arith, side_is c, side-few (is_moved c.args.numbers.now c.args.old c.args.new place), known, c.loop-place.invariant.long)

pub index_mut-requires : goal.index_mut-requires
index_mut-requires c = omega (arith, inside (goal.at.index_mut-requires c).After-side_of-side, c.loop-place.sides.ok.0)

pub loop-place-preserved : goal.loop-place-preserved
loop-place-preserved c =
    let at = (goal.at.loop-place-preserved c).After-side_of-side in
    sides_more c.loop-place.invariant c.side_of-side.result (side_is at) (inside at)

pub returns : goal.returns
returns c =
    let groups = c.args.self.now.group_of.items in
    let done : c.loop-place.place ≡ length groups = omega (arith, ap length c.as_slice-groups.ensures.value) in
    subst (λ n. AreSides groups c.args.self.now.count c.args.numbers.now c.args.old c.args.new n c.loop-place.sides.items) done c.loop-place.invariant
