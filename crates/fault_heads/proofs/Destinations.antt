-- The only destination of a line, by the gates that read it and the positions that show it.
use Rattle.std.proofs.Common.{◌≡◌, ◌≢◌, ◌∙◌, ℕ, zero, suc, ◌<◌, ◌≤◌, List, [], ◌∷◌, length, get_or, sym, ap, subst, arith}
use Rattle.std.specs.Prelude.{None, Some, Contains, slice_get}
use Rattle.std.proofs.lemmas.List.{get_or_default}
use Rattle.std.proofs.lemmas.List.Elements.{Contains-get_or}
use Rattle.std.proofs.lemmas.Option.{slice_get_within, slice_get-get_or, get_or_from_slice_get}
use Rattle.net_model.specs.Circuit.{Circuit, line_count, pins_of, Feeds}
use Rattle.net_model.specs.Wiring.{Wiring, IsWiring}
use Rattle.net_model.proofs.Orders.{order_has, reader_is_gate}
use Rattle.net_model.proofs.SetSoFar.{fits_from}
use Rattle.fault_heads.specs.Ways.{IsOnlyDestination}
use Rattle.fault_heads.specs.Places.{IsOnlyPlace, IsOnlyReader}

reads_there : (c : Circuit) (line gate : ℕ) (m : Feeds c line gate) → slice_get (pins_of c gate) m.0 ≡ Some line
reads_there c line gate m = slice_get-get_or (pins_of c gate) m.0 line m.1 ∙ ap Some m.2

module _ (c : Circuit) (w : Wiring) (wired : IsWiring c w) (line : ℕ) (order readers showing : List ℕ) (order_is : order ≡ w.order) (readers_are : readers ≡ get_or w.readers line []) (showing_are : showing ≡ get_or w.showing line []) where
  -- the only destination is a pin of the only gate that reads the line
  only_feeds : (gate pin : ℕ) → IsOnlyDestination c line gate pin → Feeds c line gate
  only_feeds gate pin only = (pin, slice_get_within (pins_of c gate) pin line only.reads, get_or_from_slice_get (pins_of c gate) pin line line only.reads)

  fed_only : (other gate pin : ℕ) → Feeds c line other → IsOnlyDestination c line gate pin → other ≡ gate
  fed_only other gate pin m only = (only.others other m.0 (reads_there c line other m)).0

  -- a gate that reads the line has a place among the readers
  reader_place : (gate : ℕ) → Feeds c line gate → (place : ℕ) × Contains readers place × (get_or order place 0 ≡ gate)
  reader_place gate feeds =
      let at = reader_is_gate c line gate feeds in
      let found = order_has c (fits_from c wired.circuit) w.order wired.order gate at.0 at.1 in
      let there : get_or w.order found.0 0 ≡ gate = sym (get_or_default w.order found.0 gate 0 found.1) ∙ found.2 in
      let listed = wired.readers.all line found.0 found.1 (subst (λ r. Feeds c line r) (sym there) feeds) in
      (found.0, subst (λ xs. Contains xs found.0) (sym readers_are) listed, ap (λ xs. get_or xs found.0 0) order_is ∙ there)

  -- a gate that has a place among the readers reads the line
  place_reads : (place : ℕ) → Contains readers place → Feeds c line (get_or order place 0)
  place_reads place m = subst (λ xs. Feeds c line (get_or xs place 0)) (sym order_is) (wired.readers.only line place (subst (λ xs. Contains xs place) readers_are m))

  pub places_within : (k d : ℕ) → k < length readers → get_or readers k d < length order
  places_within k d h = rw order_is (wired.readers.below line (get_or readers k d) (subst (λ xs. Contains xs (get_or readers k d)) readers_are (Contains-get_or readers k d h)))

  -- a line that is shown has no such destination
  pub none_shown : length showing ≢ 0 → (gate pin : ℕ) → IsOnlyDestination c line gate pin → ⊥
  none_shown some gate pin only =
      let h : 0 < length showing = omega (arith, some) in
      let at = get_or showing 0 0 in
      let listed = subst (λ xs. Contains xs at) showing_are (Contains-get_or showing 0 0 h) in
      let below = wired.showing.below line at listed in
      shows at below (wired.showing.only line at listed)
    where
      shows : (at : ℕ) → at < length c.positions → Contains (get_or c.positions at 0 ∷ []) line → ⊥
      shows at below (k, h, e) = only.unshown at (slice_get-get_or c.positions at 0 below ∙ ap Some (first k h e))
        where
          first : (k : ℕ) → k < 1 → get_or (get_or c.positions at 0 ∷ []) k line ≡ line → get_or c.positions at 0 ≡ line
          first zero h e = e
          first (suc k) h e = absurd (omega arith)

  -- a line that several gates or none read has no such destination
  pub none_read : IsOnlyReader order readers None → (gate pin : ℕ) → IsOnlyDestination c line gate pin → ⊥
  none_read none gate pin only =
      let place = reader_place gate (only_feeds gate pin only) in
      let listed : Contains readers place.0 = place.1 in
      let within = listed.1 in
      none gate (omega (arith, within)) (λ other m. fed_only (get_or order other 0) gate pin (place_reads other m) only)

  feeds_gate : (gate : ℕ) → IsOnlyReader order readers (Some gate) → Feeds c line gate
  feeds_gate gate is = let first = Contains-get_or readers 0 0 is.0 in subst (Feeds c line) (is.1 (get_or readers 0 0) first) (place_reads (get_or readers 0 0) first)

  pub reader_within : (gate : ℕ) → IsOnlyReader order readers (Some gate) → (c.sources ≤ gate) × (gate < line_count c)
  reader_within gate is = reader_is_gate c line gate (feeds_gate gate is)

  module _ (gate : ℕ) (is : IsOnlyReader order readers (Some gate)) where
    -- a line that a gate reads twice has no such destination
    pub none_placed : IsOnlyPlace (pins_of c gate) line None → (other pin : ℕ) → IsOnlyDestination c line other pin → ⊥
    none_placed none other pin only =
        let same : gate ≡ other = fed_only gate other pin (feeds_gate gate is) only in
        none pin (subst (λ g. slice_get (pins_of c g) pin ≡ Some line) (sym same) only.reads) (λ at there. (only.others gate at there).1)

    pub is_only : (pin : ℕ) → length showing ≡ 0 → IsOnlyPlace (pins_of c gate) line (Some pin) → IsOnlyDestination c line gate pin
    is_only pin unshown at = record {
      reads = at.0;
      others = λ other k there.
          let feeds : Feeds c line other = (k, slice_get_within (pins_of c other) k line there, get_or_from_slice_get (pins_of c other) k line line there) in
          let place = reader_place other feeds in
          let same : other ≡ gate = sym place.2 ∙ is.1 place.0 place.1 in
          (same, at.1 k (subst (λ g. slice_get (pins_of c g) k ≡ Some line) same there));
      unshown = λ k there.
          let within = slice_get_within c.positions k line there in
          let listed = wired.showing.all line k within (0, omega arith, get_or_from_slice_get c.positions k line 0 there) in
          let shown = subst (λ xs. Contains xs k) (sym showing_are) listed in
          omega (arith, shown.1, unshown);
    }
