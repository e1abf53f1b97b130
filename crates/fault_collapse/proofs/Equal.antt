-- A fault and its successor are equal, in two steps: from the stem to its sole pin, and from the pin to the stem of its
-- gate.
use Rattle.std.proofs.Common.{◌≡◌, ◌∙◌, ℕ, zero, suc, ◌<◌, Bool, true, false, eqb, List, [], ◌∷◌, length, get_or, refl, sym, ap, arith, subst}
use Rattle.std.specs.Prelude.{Option, None, Some, Contains, slice_get, unwrap_or, ◌&&◌}
use Rattle.std.specs.Bool.{then_some}
use Rattle.std.specs.Option.{option_map_or}
use Rattle.std.proofs.lemmas.Bool.{eqb-true, eq-eqb, and_from, and_left, and_parts}
use Rattle.std.proofs.lemmas.List.Elements.{All-contains}
use Rattle.net_model.specs.declared.gate.Gate.{Gate}
use Rattle.net_model.specs.declared.fault.Site.{Site}
use Rattle.net_model.specs.declared.fault.Site.TheVariants.{Stem, Pin, Position}
use Rattle.net_model.specs.declared.fault.Fault.{Fault}
use Rattle.net_model.specs.declared.fault.Fault.TheVariants.{Stuck}
use Rattle.net_model.specs.Gate.{gate_value}
use Rattle.net_model.specs.Circuit.{Circuit, IsCircuit, line_count, gate_at, pins_of, Feeds}
use Rattle.net_model.specs.Fault.{stuck_pin, stuck_position, IsFaultOf}
use Rattle.net_model.specs.FaultList.{destinations}
use Rattle.net_model.specs.Answer.{bit_at, seen_bits, shown_bits, driven_bit, line_bit, Agrees, IsAnswer, AreEqual}
use Rattle.net_model.specs.Collapse.{carried_value}
use Rattle.net_model.proofs.Copies.{same_driven, pins_inside, Agrees-unique}
use Rattle.net_model.proofs.OneAnswer.{one_answer}
use Rattle.net_model.proofs.Evaluation.{Agrees-exists}
use Rattle.net_model.proofs.Seen.{length-seen_bits}
use Rattle.fault_collapse.proofs.Members.{Contains-slice_get}
use Rattle.fault_collapse.proofs.Destinations.{driven, pin_is_destination, position_is_destination}
use Rattle.fault_collapse.proofs.Readings.{same_places, seen_at}
use Rattle.fault_collapse.proofs.Carried.{carried}
use Rattle.fault_collapse.proofs.Steps.{IsCarried, Enters, by_pin, by_stem, IsStep, sole_pin_reads, entered_within}

-- ---- equal faults

module _ (c : Circuit) (w : IsCircuit c) where
  pub equal_itself : (f : Fault) → AreEqual c f f
  equal_itself f v first second wide a b = one_answer c w f v first second a b

  pub equal_sym : (f g : Fault) → AreEqual c f g → AreEqual c g f
  equal_sym f g same v first second wide a b = sym (same v second first wide b a)

  pub equal_trans : (f g h : Fault) → AreEqual c f g → AreEqual c g h → AreEqual c f h
  equal_trans f g h one two v first second wide a b =
      let between = Agrees-exists c g v w in
      let answer : IsAnswer c g v (shown_bits c g between.0) = record { bits = between.0; agrees = between.1; shows = refl } in
      one v first (shown_bits c g between.0) wide a answer ∙ two v (shown_bits c g between.0) second wide answer b

-- ---- tests

-- ---- from a pin to the stem of its gate

module _ (c : Circuit) (w : IsCircuit c) (line pin : ℕ) (bit value : Bool) (gate : Gate) (drives : gate_at c line ≡ Some gate) (within : pin < length gate.pins) (carries : carried_value gate.kind (length gate.pins) bit ≡ Some value) (v bits : List Bool) (a : Agrees c (Stuck (Pin line pin) bit) v bits) where
  pin_sees : slice_get (seen_bits (stuck_pin (Stuck (Pin line pin) bit) line) bits gate.pins) pin ≡ Some bit
  pin_sees =
      let here = and_from (eqb line line) (eqb pin pin) (eq-eqb line line refl) (eq-eqb pin pin refl) in
      seen_at (stuck_pin (Stuck (Pin line pin) bit) line) bits gate.pins pin within ∙ ap (λ b. Some (unwrap_or (then_some b bit) (bit_at bits (get_or gate.pins pin 0)))) here

  -- the line has the carried value
  has_value : bit_at bits line ≡ value
  unfolding line_bit driven_bit
  has_value =
      let seen = seen_bits (stuck_pin (Stuck (Pin line pin) bit) line) bits gate.pins in
      a.each line (driven c line gate drives).1
      ∙ (ap (λ o. option_map_or (λ (g : Gate). gate_value g.kind (seen_bits (stuck_pin (Stuck (Pin line pin) bit) line) bits g.pins)) o (bit_at v line)) drives
      ∙ carried gate.kind seen pin bit value pin_sees (ap (λ n. carried_value gate.kind n bit) (length-seen_bits (stuck_pin (Stuck (Pin line pin) bit) line) bits gate.pins) ∙ carries))

  -- each line is right for the stem fault too
  right_line : (l : ℕ) → l < line_count c → (here : Bool) → eqb line l ≡ here → bit_at bits l ≡ line_bit c (Stuck (Stem line) value) v bits l
  unfolding line_bit driven_bit
  right_line l inside true t =
      let same : line ≡ l = eqb-true line l t in
      ap (bit_at bits) (sym same) ∙ (has_value ∙ ap (λ b. unwrap_or (then_some b value) (driven_bit c (Stuck (Stem line) value) v bits l)) (sym t))
  right_line l inside false t =
      a.each l inside
      ∙ (same_driven c (Stuck (Pin line pin) bit) (Stuck (Stem line) value) v bits bits l (gate_at c l) (λ p. ap (λ b. then_some b bit) (and_left (eqb line l) (eqb pin p) t)) (λ read m. refl)
      ∙ ap (λ b. unwrap_or (then_some b value) (driven_bit c (Stuck (Stem line) value) v bits l)) (sym t))

  agrees_too : Agrees c (Stuck (Stem line) value) v bits
  agrees_too = record { whole = a.whole; each = λ l inside. right_line l inside (eqb line l) refl }

pub pin_equal : (c : Circuit) → IsCircuit c → (line pin : ℕ) (bit value : Bool) (gate : Gate) → gate_at c line ≡ Some gate → pin < length gate.pins → carried_value gate.kind (length gate.pins) bit ≡ Some value
    → AreEqual c (Stuck (Pin line pin) bit) (Stuck (Stem line) value)
pin_equal c w line pin bit value gate drives within carries v first second wide a b =
    let same = Agrees-unique c w (Stuck (Stem line) value) v a.bits b.bits (agrees_too c w line pin bit value gate drives within carries v a.bits a.agrees) b.agrees in
    a.shows ∙ (ap (shown_bits c (Stuck (Stem line) value)) same ∙ sym b.shows)

-- ---- from a stem to the pin that is its sole destination

module _ (c : Circuit) (w : IsCircuit c) (line gate pin : ℕ) (bit : Bool) (inside : line < line_count c) (sole : destinations c line ≡ Pin gate pin ∷ []) (v x y : List Bool) (a : Agrees c (Stuck (Stem line) bit) v x) (b : Agrees c (Stuck (Pin gate pin) bit) v y) where
  only_destination : (site : Site) → Contains (destinations c line) site → site ≡ Pin gate pin
  only_destination site has = only_element site (subst (λ sites. Contains sites site) sole has)
    where
      only_element : (site : Site) → Contains (Pin gate pin ∷ []) site → site ≡ Pin gate pin
      only_element site (zero, h, e) = sym e
      only_element site (suc k, h, e) = absurd (omega (arith, h))

  stem_is_stuck : bit_at x line ≡ bit
  unfolding line_bit
  stem_is_stuck = a.each line inside ∙ ap (λ t. unwrap_or (then_some t bit) (driven_bit c (Stuck (Stem line) bit) v x line)) (eq-eqb line line refl)

  -- a pin that isn't the sole destination reads another line
  other_read : (reader place read : ℕ) → slice_get (pins_of c reader) place ≡ Some read → (eqb gate reader && eqb pin place) ≡ false → (same : Bool) → eqb line read ≡ same → same ≡ false
  other_read reader place read there not_here false t = refl
  other_read reader place read there not_here true t =
      let is : line ≡ read = eqb-true line read t in
      let site = only_destination (Pin reader place) (pin_is_destination c line reader place (there ∙ ap Some (sym is))) in
      let g : reader ≡ gate = cc in
      let p : place ≡ pin = cc in
      let here = and_from (eqb gate reader) (eqb pin place) (rw g (eq-eqb gate gate refl)) (rw p (eq-eqb pin pin refl)) in
      let clash : ◌≡◌ {A = Bool} true false = sym here ∙ not_here in
      cc

  -- the stuck pin reads the line
  stuck_read : (reader place read : ℕ) → slice_get (pins_of c reader) place ≡ Some read → (eqb gate reader && eqb pin place) ≡ true → bit_at x read ≡ bit
  stuck_read reader place read there here =
      let both = and_parts (eqb gate reader) (eqb pin place) here in
      let g : gate ≡ reader = eqb-true gate reader both.0 in
      let p : pin ≡ place = eqb-true pin place both.1 in
      let reads : slice_get (pins_of c reader) place ≡ Some line = subst (λ n. slice_get (pins_of c n) place ≡ Some line) g (subst (λ n. slice_get (pins_of c gate) n ≡ Some line) p (sole_pin_reads c line gate pin sole)) in
      let same : line ≡ read = let s : Some line ≡ Some read = sym reads ∙ there in cc in
      ap (bit_at x) (sym same) ∙ stem_is_stuck

  -- the same is seen if the lines that are read have the same bit
  same_seen : (reader place read : ℕ) → slice_get (pins_of c reader) place ≡ Some read → (eqb line read ≡ false → bit_at x read ≡ bit_at y read) → (here : Bool) → (eqb gate reader && eqb pin place) ≡ here → bit_at x read ≡ unwrap_or (then_some here bit) (bit_at y read)
  same_seen reader place read there rest true t = stuck_read reader place read there t
  same_seen reader place read there rest false t = rest (other_read reader place read there t (eqb line read) refl)

  same_gate : (l : ℕ) (o : Option Gate) → gate_at c l ≡ o → ((read : ℕ) → Feeds c read l → eqb line read ≡ false → bit_at x read ≡ bit_at y read)
      → option_map_or (λ (g : Gate). gate_value g.kind (seen_bits (stuck_pin (Stuck (Stem line) bit) l) x g.pins)) o (bit_at v l) ≡ option_map_or (λ (g : Gate). gate_value g.kind (seen_bits (stuck_pin (Stuck (Pin gate pin) bit) l) y g.pins)) o (bit_at v l)
  same_gate l None e rest = refl
  same_gate l (Some g) e rest =
      let pins : pins_of c l ≡ g.pins = ap (λ o. option_map_or (λ (g : Gate). g.pins) o []) e in
      ap (gate_value g.kind)
      (same_places (λ place read. unwrap_or (stuck_pin (Stuck (Stem line) bit) l place) (bit_at x read)) (λ place read. unwrap_or (stuck_pin (Stuck (Pin gate pin) bit) l place) (bit_at y read)) g.pins
      (λ place read there.
      let reads : slice_get (pins_of c l) place ≡ Some read = ap (λ xs. slice_get xs place) pins ∙ there in
      same_seen l place read reads (rest read (Contains-slice_get (pins_of c l) place read reads)) (eqb gate l && eqb pin place) refl))

  -- every other line has the same bit
  same_below : (n l : ℕ) → w.acyclic.rank l < n → l < line_count c → eqb line l ≡ false → bit_at x l ≡ bit_at y l
  unfolding line_bit driven_bit
  same_below zero l low within other = absurd (omega arith)
  same_below (suc n) l low within other =
      a.each l within
      ∙ (ap (λ t. unwrap_or (then_some t bit) (driven_bit c (Stuck (Stem line) bit) v x l)) other
      ∙ (same_gate l (gate_at c l) refl (λ read m not_line. same_below n read (let lower : w.acyclic.rank read < w.acyclic.rank l = w.acyclic.rises read l m in omega arith) (pins_inside c w l read m) not_line)
      ∙ sym (b.each l within)))

  other_shown : (at read : ℕ) → slice_get c.positions at ≡ Some read → (same : Bool) → eqb line read ≡ same → same ≡ false
  other_shown at read there false t = refl
  other_shown at read there true t =
      let is : line ≡ read = eqb-true line read t in
      let site = only_destination (Position at) (position_is_destination c line at (there ∙ ap Some (sym is))) in
      cc

  same_shown : shown_bits c (Stuck (Stem line) bit) x ≡ shown_bits c (Stuck (Pin gate pin) bit) y
  same_shown =
      same_places (λ place read. unwrap_or (stuck_position (Stuck (Stem line) bit) place) (bit_at x read)) (λ place read. unwrap_or (stuck_position (Stuck (Pin gate pin) bit) place) (bit_at y read)) c.positions
      (λ at read there. same_below (suc (w.acyclic.rank read)) read (omega arith) (All-contains (λ l. l < line_count c) c.positions read w.positions (Contains-slice_get c.positions at read there)) (other_shown at read there (eqb line read) refl))

pub stem_equal : (c : Circuit) → IsCircuit c → (line gate pin : ℕ) (bit : Bool) → line < line_count c → destinations c line ≡ Pin gate pin ∷ [] → AreEqual c (Stuck (Stem line) bit) (Stuck (Pin gate pin) bit)
stem_equal c w line gate pin bit inside sole v first second wide a b = a.shows ∙ (same_shown c w line gate pin bit inside sole v a.bits b.bits a.agrees b.agrees ∙ sym b.shows)

-- ---- successors

module _ (c : Circuit) (w : IsCircuit c) where
  -- the fault at the entered pin is equal to its successor
  entered_equal : (line pin : ℕ) (bit : Bool) (next : Fault) → pin < length (pins_of c line) → IsCarried c line bit next → AreEqual c (Stuck (Pin line pin) bit) next
  entered_equal line pin bit next within is =
      let pins : pins_of c line ≡ is.gate.pins = ap (λ o. option_map_or (λ (g : Gate). g.pins) o []) is.drives in
      subst (AreEqual c (Stuck (Pin line pin) bit)) (sym is.next_is) (pin_equal c w line pin bit is.value is.gate is.drives (subst (λ xs. pin < length xs) pins within) is.carries)

  enters_equal : (line pin : ℕ) (site : Site) (bit : Bool) → IsFaultOf c (Stuck site bit) → Enters c line pin site → AreEqual c (Stuck site bit) (Stuck (Pin line pin) bit)
  enters_equal line pin (Pin _ _) bit is by_pin = equal_itself c w (Stuck (Pin line pin) bit)
  enters_equal line pin (Position _) bit is enters = elim enters [ ]
  enters_equal line pin (Stem at) bit is (by_stem sole) = stem_equal c w at line pin bit is sole

  -- A fault and its successor are equal.
  pub step_equal : (site : Site) (bit : Bool) (next : Fault) → IsFaultOf c (Stuck site bit) → IsStep c site bit next → AreEqual c (Stuck site bit) next
  step_equal site bit next is step =
      equal_trans c w (Stuck site bit) (Stuck (Pin step.line step.pin) bit) next (enters_equal step.line step.pin site bit is step.enters)
      (entered_equal step.line step.pin bit next (entered_within c step.line step.pin site bit is step.enters) step.carried)
