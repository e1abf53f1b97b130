use Rattle.std.proofs.Common.{◌≡◌, ◌∙◌, ◌<◌, ℕ, List, length, get_or, Decides, false, refl, sym, ap, rules}
use Rattle.std.specs.Prelude.{None, Some, slice_get, option_and_then}
use Rattle.std.proofs.lemmas.Bool.{false≢true}
use Rattle.std.proofs.lemmas.Option.{none-some, same_Some, slice_get_read, slice_get_past}
use Rattle.fault_list.specs.Slots.{slot_of}
use Rattle.fault_list.proofs.Table.{no_place, place_if}
use Rattle.fault_list.proofs.slots.place_of.Goals as goal

read : {X : Type 0} (xs : List X) (i : ℕ) (x : X) → (i < length xs) × ((d : X) → x ≡ get_or xs i d) → slice_get xs i ≡ Some x
read xs i x (inside, is) = slice_get_read xs (length xs) i x refl inside (is x)

pub returns-in_err-place : goal.returns-in_err-place
returns-in_err-place c =
    let slot : slot_of c.args.starts.now c.args.site ≡ Some c.in_ok-slot.slot = sym c.in_ok-slot.ensures in
    let none : slice_get c.args.places.now c.in_ok-slot.slot ≡ None = slice_get_past c.args.places.now c.in_ok-slot.slot c.in_err-place.ensures.lookup.3 in
    rw c.from_residual-in_err-place.ensures
    (no_place c.args.starts.now c.args.places.now c.args.sites.now c.requires c.args.site (ap (option_and_then (slice_get c.args.places.now)) slot ∙ none))

pub returns-in_err-found : goal.returns-in_err-found
returns-in_err-found c =
    let slot : slot_of c.args.starts.now c.args.site ≡ Some c.in_ok-slot.slot = sym c.in_ok-slot.ensures in
    let place : slice_get c.args.places.now c.in_ok-slot.slot ≡ Some c.in_ok-place.field-0.now = read c.args.places.now c.in_ok-slot.slot c.in_ok-place.field-0.now c.in_ok-place.ensures.lookup.3 in
    let none : slice_get c.args.sites.now c.in_ok-place.field-0.now ≡ None = slice_get_past c.args.sites.now c.in_ok-place.field-0.now c.in_err-found.ensures.lookup.3 in
    rw c.from_residual-in_err-found.ensures
    (place_if c.args.starts.now c.args.places.now c.args.sites.now c.requires c.args.site c.in_ok-place.field-0.now (ap (option_and_then (slice_get c.args.places.now)) slot ∙ place)
    false (λ e. absurd (false≢true e)) (λ there. absurd (none-some c.args.site (sym none ∙ there))))

pub returns : goal.returns
returns c =
    let slot : slot_of c.args.starts.now c.args.site ≡ Some c.in_ok-slot.slot = sym c.in_ok-slot.ensures in
    let place : slice_get c.args.places.now c.in_ok-slot.slot ≡ Some c.in_ok-place.field-0.now = read c.args.places.now c.in_ok-slot.slot c.in_ok-place.field-0.now c.in_ok-place.ensures.lookup.3 in
    let found : slice_get c.args.sites.now c.in_ok-place.field-0.now ≡ Some c.in_ok-found.field-0.now = read c.args.sites.now c.in_ok-place.field-0.now c.in_ok-found.field-0.now c.in_ok-found.ensures.lookup.3 in
    let tells : Decides c.eq.result (c.in_ok-found.field-0.now ≡ c.args.site) = grind (rules, c.eq.ensures) in
    rw c.then_some.ensures
    (place_if c.args.starts.now c.args.places.now c.args.sites.now c.requires c.args.site c.in_ok-place.field-0.now (ap (option_and_then (slice_get c.args.places.now)) slot ∙ place)
    c.eq.result (λ e. found ∙ ap Some (tells.0 e)) (λ there. tells.1 (same_Some c.in_ok-found.field-0.now c.args.site (sym found ∙ there))))
