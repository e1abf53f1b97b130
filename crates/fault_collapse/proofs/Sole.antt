-- The gate of a line's sole destination, by the wiring.
use Rattle.std.proofs.Common.{◌≡◌, ◌∙◌, ℕ, zero, suc, ◌<◌, List, [], ◌∷◌, length, get_or, refl, sym, ap, arith, subst}
use Rattle.std.specs.Prelude.{Contains, Option, None, Some}
use Rattle.std.proofs.lemmas.List.{get_or_default}
use Rattle.std.proofs.lemmas.List.Elements.{Contains-get_or}
use Rattle.net_model.specs.declared.fault.Site.{Site}
use Rattle.net_model.specs.declared.fault.Site.TheVariants.{Pin}
use Rattle.net_model.specs.Circuit.{Circuit, line_count, pins_of}
use Rattle.net_model.specs.FaultList.{destinations}
use Rattle.net_model.specs.Collapse.{only_gate}
use Rattle.net_model.specs.Wiring.{Wiring, IsWiring}
use Rattle.net_model.proofs.Orders.{order_has, reader_is_gate}
use Rattle.net_model.proofs.SetSoFar.{fits_from}
use Rattle.fault_collapse.proofs.Destinations.{pin_is_destination}
use Rattle.fault_collapse.proofs.Members.{Contains-slice_get, slice_get-Contains}
use Rattle.fault_collapse.proofs.Steps.{sole_pin, sole_pin_reads}

only_pin : (sites : List Site) (gate pin : ℕ) → length sites ≡ 1 → Contains sites (Pin gate pin) → only_gate sites ≡ Some gate
only_pin [] gate pin one has = absurd (omega arith)
only_pin (site ∷ []) gate pin one (zero, h, same) = ap (λ s. only_gate (s ∷ [])) same
only_pin (site ∷ []) gate pin one (suc k, h, same) = absurd (omega (arith, h))
only_pin (site ∷ other ∷ sites) gate pin one has = absurd (omega arith)

module _ (c : Circuit) (wiring : Wiring) (is : IsWiring c wiring) (line : ℕ) (inside : line < line_count c) where
  -- The line has one reader, and no position shows it.
  abbrev pub HasOneUser : Type 0
  HasOneUser = (length (get_or wiring.readers line []) ≡ 1) × (length (get_or wiring.showing line []) ≡ 0)

  -- a line whose sole destination is a pin has one user
  pub one_user : (gate : ℕ) → only_gate (destinations c line) ≡ Some gate → HasOneUser
  one_user gate e =
      let sole = sole_pin (destinations c line) gate e in
      let feeds = Contains-slice_get (pins_of c gate) sole.0 line (sole_pin_reads c line gate sole.0 sole.1) in
      let drives = reader_is_gate c line gate feeds in
      let place = order_has c (fits_from c is.circuit) wiring.order is.order gate drives.0 drives.1 in
      let there : get_or wiring.order place.0 0 ≡ gate = get_or_default wiring.order place.0 0 gate place.1 ∙ place.2 in
      let has = is.readers.all line place.0 place.1 (subst (λ g. Contains (pins_of c g) line) (sym there) feeds) in
      let users = is.fanout line inside in
      let one = ap length sole.1 in
      (omega (arith, has.1, users, one), omega (arith, has.1, users, one))

  -- the place of the one user
  first_place : HasOneUser → Contains (get_or wiring.readers line []) (get_or (get_or wiring.readers line []) 0 0)
  first_place one = Contains-get_or (get_or wiring.readers line []) 0 0 (omega (arith, one.0))

  pub place_within : HasOneUser → get_or (get_or wiring.readers line []) 0 0 < length wiring.order
  place_within one = is.readers.below line (get_or (get_or wiring.readers line []) 0 0) (first_place one)

  -- the gate of the one user
  pub user_gate : HasOneUser → only_gate (destinations c line) ≡ Some (get_or wiring.order (get_or (get_or wiring.readers line []) 0 0) 0)
  user_gate one =
      let place = get_or (get_or wiring.readers line []) 0 0 in
      let gate = get_or wiring.order place 0 in
      let pin = slice_get-Contains (pins_of c gate) line (is.readers.only line place (first_place one)) in
      only_pin (destinations c line) gate pin.0 (omega (arith, is.fanout line inside, one.0, one.1)) (pin_is_destination c line gate pin.0 pin.1)

  -- if the line doesn't have one user, there is no such gate
  pub no_user_gate : (HasOneUser → ⊥) → None ≡ only_gate (destinations c line)
  no_user_gate apart = by (only_gate (destinations c line)) refl
    where
      by : (found : Option ℕ) → only_gate (destinations c line) ≡ found → None ≡ only_gate (destinations c line)
      by None e = sym e
      by (Some gate) e = absurd (apart (one_user gate e))
