use Rattle.std.proofs.Common.{◌≡◌, ◌∙◌, ◌++◌, ◌∷◌, [], ℕ, List, length, get_or, ap, sym, arith}
use Rattle.std.specs.Prelude.{filter}
use Rattle.std.specs.List.{range_with_len}
use Rattle.samediff_dict.specs.Moved.{has_both_sides}
use Rattle.samediff_dict.proofs.SharingLemmas.{filter_with, filter_without}
use Rattle.samediff_dict.proofs.groups.PlaceGroups.two_sided.Goals as goal
use Rattle.samediff_dict.proofs.groups.PlaceGroups.two_sided.Goals.{then-has_both_sides+in_ok-push, else-has_both_sides}

pub loop-place-init : goal.loop-place-init
loop-place-init c = c.new-places.ensures.items

pub has_both_sides-requires-clause-within : goal.has_both_sides-requires-clause-within
has_both_sides-requires-clause-within c =
    let place = c.loop-place.place in
    let known = c.requires.within place (omega (arith, ap length c.as_slice-groups.ensures.value)) in
    omega (arith, ap (λ (xs : List ℕ). get_or xs place 0) c.as_slice-groups.ensures.value, known, c.requires.long)

pub loop-place-preserved : goal.loop-place-preserved
loop-place-preserved c =
    let test = has_both_sides c.args.self.now.group_of.items c.args.sides.now in
    let place = c.loop-place.place in
    let same : c.has_both_sides.result ≡ test place = c.has_both_sides.ensures ∙ ap (λ (gs : List ℕ). has_both_sides gs c.args.sides.now place) c.as_slice-groups.ensures.value in
    elim c.if-has_both_sides.branch [
      | then-has_both_sides+in_ok-push w ↦
          ap (λ v. v.items) w.places-is ∙ (w.in_ok-push.ensures.items ∙ (ap (λ (xs : List ℕ). xs ++ place ∷ []) c.loop-place.invariant ∙ sym (filter_with test place (sym same ∙ w.if-has_both_sides.true))))
      | else-has_both_sides w ↦ ap (λ v. v.items) w.places-is ∙ (c.loop-place.invariant ∙ sym (filter_without test place (sym same ∙ w.if-has_both_sides.false)))
    ]

pub returns : goal.returns
returns c =
    let groups = c.args.self.now.group_of.items in
    let done : c.loop-place.place ≡ length groups = omega (arith, ap length c.as_slice-groups.ensures.value) in
    c.loop-place.invariant ∙ ap (λ n. filter (has_both_sides groups c.args.sides.now) (range_with_len 0 n)) done
