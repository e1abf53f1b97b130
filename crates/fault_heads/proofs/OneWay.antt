-- The laws of stems, pins, positions and ways.
use Rattle.std.proofs.Common.{◌≡◌, ◌≢◌, ◌∙◌, ℕ, ◌<◌, List, [], length, get_or, set, refl, sym, ap, subst, arith, inl, inr}
use Rattle.std.specs.Prelude.{Bool, true, false, not, None, Some, Option, unwrap_or, slice_get, ◌==◌, ◌&&◌}
use Rattle.std.specs.Bool.{then_some}
use Rattle.std.specs.Option.{option_map_or}
use Rattle.std.proofs.lemmas.Bool.{cases_eq}
use Rattle.std.proofs.lemmas.Bool.Decides.{nat_tests}
use Rattle.std.proofs.lemmas.List.{get_or-set_same, get_or-set_other, length-set}
use Rattle.std.proofs.lemmas.List.Elements.{Contains-get_or}
use Rattle.std.proofs.lemmas.Option.{slice_get-get_or, slice_get_within, get_or_from_slice_get}
use Rattle.net_model.specs.declared.gate.Gate.{Gate}
use Rattle.net_model.specs.declared.fault.Site.TheVariants.{Stem, Pin, Position}
use Rattle.net_model.specs.declared.fault.Fault.TheVariants.{Free, Stuck}
use Rattle.net_model.specs.Gate.{gate_value}
use Rattle.net_model.specs.Circuit.{Circuit, IsCircuit, line_count, gate_at, pins_of, Feeds}
use Rattle.net_model.specs.Fault.{stuck_pin, stuck_position}
use Rattle.net_model.specs.Answer.{bit_at, seen_bits, driven_bit, line_bit, Agrees, shown_bits, IsAnswer}
use Rattle.net_model.proofs.Copies.{same_driven, pins_inside}
use Rattle.net_model.proofs.Orders.{reader_is_gate}
use Rattle.fault_heads.specs.declared.head.Head.TheVariants as head
use Rattle.fault_heads.specs.Turned.{turning, turned_if, bits_differ}
use Rattle.fault_heads.specs.Ways.{IsOnlyDestination}
use Rattle.fault_heads.specs.Laws.{value_with_pin, StemTurnsLine, PinTurnsGate, PositionTurnsItself, LineTurnsGate}
use Rattle.fault_heads.proofs.SeenPins.{same_seen}
use Rattle.fault_heads.proofs.Turning.{turned_to, stays, untouched, stuck_here, carry_answer, turned_bit, reads_same, others_right, turned_shows, turned_valuation}

-- ---- stems

-- a stem that is stuck at the bit that it has changes nothing
stuck_same : (c : Circuit) (line : ℕ) (v free : List Bool) → Agrees c Free v free → Agrees c (Stuck (Stem line) (bit_at free line)) v free
stuck_same c line v free a = record {
  whole = a.whole;
  each = λ l h. elim (cases_eq line l) [
    | inl same ↦ let P : ℕ → Type 0 = λ n. bit_at free n ≡ line_bit c (Stuck (Stem line) (bit_at free line)) v free n in subst P same (sym (stuck_here c (bit_at free line) v free line))
    | inr apart ↦ a.each l h ∙ sym (untouched c (Stuck (Stem line) (bit_at free line)) v free l (λ e. let same : line ≡ l = cc in apart same))
  ];
}

pub stem_law : StemTurnsLine
stem_law c line bit v free answer w inside a is = by bit (bit_at free line) refl is
  where
    by : (b now : Bool) → bit_at free line ≡ now → IsAnswer c (Stuck (Stem line) b) v answer → IsAnswer c (turned_if c free (head.Line line) (bits_differ b now)) v answer
    by true true e here = carry_answer c w (Stuck (Stem line) true) Free v free free answer (subst (λ b. Agrees c (Stuck (Stem line) b) v free) e (stuck_same c line v free a)) a refl here
    by false false e here = carry_answer c w (Stuck (Stem line) false) Free v free free answer (subst (λ b. Agrees c (Stuck (Stem line) b) v free) e (stuck_same c line v free a)) a refl here
    by true false e here = subst (λ b. IsAnswer c (Stuck (Stem line) (not b)) v answer) (sym e) here
    by false true e here = subst (λ b. IsAnswer c (Stuck (Stem line) (not b)) v answer) (sym e) here

-- ---- positions

-- a valuation that agrees without a fault agrees under a position's fault
position_agrees : (c : Circuit) (at : ℕ) (bit : Bool) (v free : List Bool) → Agrees c Free v free → Agrees c (Stuck (Position at) bit) v free
unfolding line_bit driven_bit
position_agrees c at bit v free a = record { whole = a.whole; each = λ l h. a.each l h }

-- a position that is stuck at the bit that it shows changes nothing
position_same : (c : Circuit) (at : ℕ) (free : List Bool) → shown_bits c (Stuck (Position at) (bit_at free (get_or c.positions at 0))) free ≡ shown_bits c Free free
position_same c at free =
    same_seen (stuck_position (Stuck (Position at) (bit_at free (get_or c.positions at 0)))) (stuck_position Free) free free c.positions
    (λ i h. by i (at == i) refl)
  where
    by : (i : ℕ) (here : Bool) → (at == i) ≡ here → unwrap_or (then_some here (bit_at free (get_or c.positions at 0))) (bit_at free (get_or c.positions i 0)) ≡ bit_at free (get_or c.positions i 0)
    by i true e = let same : at ≡ i = grind (arith, nat_tests, e) in ap (λ n. bit_at free (get_or c.positions n 0)) same
    by i false e = refl

pub position_law : PositionTurnsItself
position_law c at bit v free answer w inside a is = by bit (bit_at free (get_or c.positions at 0)) refl is
  where
    shown : ℕ → Bool
    shown n = bit_at free (get_or c.positions n 0)

    by : (b now : Bool) → bit_at free (get_or c.positions at 0) ≡ now → IsAnswer c (Stuck (Position at) b) v answer → IsAnswer c (turned_if c free (head.Position at) (bits_differ b now)) v answer
    by true true e here = carry_answer c w (Stuck (Position at) true) Free v free free answer (position_agrees c at true v free a) a (subst (λ b. shown_bits c (Stuck (Position at) b) free ≡ shown_bits c Free free) e (position_same c at free)) here
    by false false e here = carry_answer c w (Stuck (Position at) false) Free v free free answer (position_agrees c at false v free a) a (subst (λ b. shown_bits c (Stuck (Position at) b) free ≡ shown_bits c Free free) e (position_same c at free)) here
    by true false e here = subst (λ b. IsAnswer c (Stuck (Position at) (not b)) v answer) (sym e) here
    by false true e here = subst (λ b. IsAnswer c (Stuck (Position at) (not b)) v answer) (sym e) here

-- ---- pins

module _ (c : Circuit) (w : IsCircuit c) (gate pin : ℕ) (bit : Bool) (v free bits : List Bool) (a : Agrees c Free v free) (within : gate < line_count c)
    (is : Agrees c (turned_if c free (head.Line gate) (bits_differ (value_with_pin c v free gate pin bit) (bit_at free gate))) v bits) where
  pin_turned : Bool
  pin_turned = bits_differ (value_with_pin c v free gate pin bit) (bit_at free gate)

  at_gate : bit_at bits gate ≡ line_bit c (Stuck (Pin gate pin) bit) v bits gate
  unfolding line_bit driven_bit pin_turned
  at_gate =
      turned_bit c w v free a gate within pin_turned bits is
      ∙ (turned_to (value_with_pin c v free gate pin bit) (bit_at free gate)
      ∙ same_driven c (Stuck (Pin gate pin) bit) (Stuck (Pin gate pin) bit) v free bits gate (gate_at c gate) (λ at. refl) (λ read m. sym (reads_same c w v free a gate within pin_turned bits is read m)))

  -- a valuation with the gate's line turned, or not, agrees under the pin's fault too
  pin_agrees : Agrees c (Stuck (Pin gate pin) bit) v bits
  unfolding pin_turned
  pin_agrees = record {
    whole = is.whole;
    each = λ l h. elim (cases_eq gate l) [
      | inl same ↦ let P : ℕ → Type 0 = λ n. bit_at bits n ≡ line_bit c (Stuck (Pin gate pin) bit) v bits n in subst P same at_gate
      | inr apart ↦ others_right c w v free a gate within pin_turned bits is l h apart ∙ sym (untouched c (Stuck (Pin gate pin) bit) v bits l (λ e. let same : gate ≡ l = cc in apart same))
    ];
  }

gate_within : (c : Circuit) (gate pin : ℕ) → pin < length (pins_of c gate) → gate < line_count c
gate_within c gate pin inside = (reader_is_gate c (get_or (pins_of c gate) pin 0) gate (Contains-get_or (pins_of c gate) pin 0 inside)).1

pub pin_law : PinTurnsGate
pin_law c gate pin bit v free answer w inside a is =
    let turned = bits_differ (value_with_pin c v free gate pin bit) (bit_at free gate) in
    let within = gate_within c gate pin inside in
    let one = turned_valuation c w v free a gate within turned in
    carry_answer c w (Stuck (Pin gate pin) bit) (turned_if c free (head.Line gate) turned) v one.0 one.0 answer
    (pin_agrees c w gate pin bit v free one.0 a within one.1) one.1 (sym (turned_shows c w v free a gate within turned one.0 one.1)) is

-- ---- ways

module _ (c : Circuit) (w : IsCircuit c) (line gate pin : ℕ) (only : IsOnlyDestination c line gate pin) (v free bits : List Bool) (a : Agrees c Free v free) (within : gate < line_count c) (inside : line < line_count c)
    (is : Agrees c (turned_if c free (head.Line gate) (bits_differ (value_with_pin c v free gate pin (not (bit_at free line))) (bit_at free gate))) v bits) where
  way_turned : Bool
  way_turned = bits_differ (value_with_pin c v free gate pin (not (bit_at free line))) (bit_at free gate)

  -- the valuation with the line turned too
  with_line : List Bool
  with_line = set bits line (not (bit_at free line))

  feeds : Feeds c line gate
  feeds = (pin, slice_get_within (pins_of c gate) pin line only.reads, get_or_from_slice_get (pins_of c gate) pin line line only.reads)

  apart : line ≢ gate
  apart same = let rises = w.acyclic.rises line gate feeds in let equal = ap w.acyclic.rank same in omega (arith, rises, equal)

  here : bit_at with_line line ≡ not (bit_at free line)
  unfolding with_line
  here = get_or-set_same bits line (not (bit_at free line)) false (subst (λ n. line < n) (sym is.whole) inside)

  elsewhere : (l : ℕ) → line ≢ l → bit_at with_line l ≡ bit_at bits l
  unfolding with_line
  elsewhere l ne = get_or-set_other bits line l (not (bit_at free line)) false (λ same. ne (sym same))

  -- what the pins of the gate see
  pins_see : (i : ℕ) → i < length (pins_of c gate) → unwrap_or (stuck_pin (Stuck (Pin gate pin) (not (bit_at free line))) gate i) (bit_at free (get_or (pins_of c gate) i 0)) ≡ bit_at with_line (get_or (pins_of c gate) i 0)
  unfolding way_turned
  pins_see i h = by (pin == i) refl
    where
      read : ℕ
      read = get_or (pins_of c gate) i 0

      both : (pin_is : Bool) → (pin == i) ≡ pin_is → (gate == gate && pin == i) ≡ pin_is
      both b e = grind (arith, nat_tests, e)

      reads_other : (pin == i) ≡ false → line ≢ read
      reads_other e same =
          let there : slice_get (pins_of c gate) i ≡ Some line = slice_get-get_or (pins_of c gate) i 0 h ∙ ap Some (sym same) in
          let p : i ≡ pin = (only.others gate i there).1 in
          grind (arith, nat_tests, e, p)

      by : (pin_is : Bool) → (pin == i) ≡ pin_is → unwrap_or (then_some (gate == gate && pin == i) (not (bit_at free line))) (bit_at free read) ≡ bit_at with_line read
      by true e =
          let same : pin ≡ i = grind (arith, nat_tests, e) in
          let is_line : line ≡ read = sym (get_or_from_slice_get (pins_of c gate) pin line 0 only.reads) ∙ ap (λ n. get_or (pins_of c gate) n 0) same in
          ap (λ b. unwrap_or (then_some b (not (bit_at free line))) (bit_at free read)) (both true e) ∙ (sym here ∙ ap (bit_at with_line) is_line)
      by false e =
          ap (λ b. unwrap_or (then_some b (not (bit_at free line))) (bit_at free read)) (both false e)
          ∙ (sym (reads_same c w v free a gate within way_turned bits is read (Contains-get_or (pins_of c gate) i 0 h)) ∙ sym (elsewhere read (reads_other e)))

  gate_sees : (o : Option Gate) → gate_at c gate ≡ o
      → option_map_or (λ (g : Gate). gate_value g.kind (seen_bits (stuck_pin (Stuck (Pin gate pin) (not (bit_at free line))) gate) free g.pins)) o (bit_at v gate)
      ≡ option_map_or (λ (g : Gate). gate_value g.kind (seen_bits (stuck_pin Free gate) with_line g.pins)) o (bit_at v gate)
  gate_sees None e = refl
  gate_sees (Some g) e =
      let pins : pins_of c gate ≡ g.pins = ap (λ o. option_map_or (λ (g : Gate). g.pins) o []) e in
      let P : List ℕ → Type 0 = λ lines. seen_bits (stuck_pin (Stuck (Pin gate pin) (not (bit_at free line))) gate) free lines ≡ seen_bits (stuck_pin Free gate) with_line lines in
      ap (gate_value g.kind) (subst P pins (same_seen (stuck_pin (Stuck (Pin gate pin) (not (bit_at free line))) gate) (stuck_pin Free gate) free with_line (pins_of c gate) pins_see))

  right_gate : bit_at with_line gate ≡ line_bit c Free v with_line gate
  unfolding line_bit driven_bit way_turned
  right_gate =
      elsewhere gate apart
      ∙ (turned_bit c w v free a gate within way_turned bits is
      ∙ (turned_to (value_with_pin c v free gate pin (not (bit_at free line))) (bit_at free gate) ∙ gate_sees (gate_at c gate) refl))

  right_other : (l : ℕ) → l < line_count c → line ≢ l → gate ≢ l → bit_at with_line l ≡ line_bit c Free v with_line l
  unfolding way_turned
  right_other l h ne not_gate =
      elsewhere l ne
      ∙ (others_right c w v free a gate within way_turned bits is l h not_gate
      ∙ stays c Free v bits with_line l (λ read m. sym (elsewhere read (not_read read m))))
    where
      not_read : (read : ℕ) → Feeds c read l → line ≢ read
      not_read read m same =
          let there : slice_get (pins_of c l) m.0 ≡ Some line = slice_get-get_or (pins_of c l) m.0 read m.1 ∙ ap Some (m.2 ∙ sym same) in
          not_gate (sym (only.others l m.0 there).0)

  -- with the line turned too, the valuation agrees under the fault that turns the line
  way_agrees : Agrees c (turning c free (head.Line line)) v with_line
  unfolding with_line
  way_agrees = record {
    whole = length-set bits line (not (bit_at free line)) ∙ is.whole;
    each = λ l h. elim (cases_eq line l) [
      | inl same ↦ let P : ℕ → Type 0 = λ n. bit_at with_line n ≡ line_bit c (turning c free (head.Line line)) v with_line n in subst P same (here ∙ sym (stuck_here c (not (bit_at free line)) v with_line line))
      | inr ne ↦ right l h ne ∙ sym (untouched c (turning c free (head.Line line)) v with_line l (λ e. let same : line ≡ l = cc in ne same))
    ];
  }
    where
      right : (l : ℕ) → l < line_count c → line ≢ l → bit_at with_line l ≡ line_bit c Free v with_line l
      right l h ne = elim (cases_eq gate l) [
        | inl same ↦ let P : ℕ → Type 0 = λ n. bit_at with_line n ≡ line_bit c Free v with_line n in subst P same right_gate
        | inr not_gate ↦ right_other l h ne not_gate
      ]

  -- no position shows the line
  way_shows : shown_bits c (turning c free (head.Line line)) with_line ≡ shown_bits c Free bits
  way_shows =
      same_seen (stuck_position (turning c free (head.Line line))) (stuck_position Free) with_line bits c.positions
      (λ i h. elsewhere (get_or c.positions i 0) (λ same. only.unshown i (slice_get-get_or c.positions i 0 h ∙ ap Some (sym same))))

pub way_law : LineTurnsGate
way_law c line gate pin v free answer w only a is =
    let turned = bits_differ (value_with_pin c v free gate pin (not (bit_at free line))) (bit_at free gate) in
    let there = slice_get_within (pins_of c gate) pin line only.reads in
    let within = gate_within c gate pin there in
    let reads : Feeds c line gate = (pin, there, get_or_from_slice_get (pins_of c gate) pin line line only.reads) in
    let inside = pins_inside c w gate line reads in
    let one = turned_valuation c w v free a gate within turned in
    carry_answer c w (turning c free (head.Line line)) (turned_if c free (head.Line gate) turned) v (with_line c w line gate pin only v free one.0 a within inside one.1) one.0 answer
    (way_agrees c w line gate pin only v free one.0 a within inside one.1) one.1
    (way_shows c w line gate pin only v free one.0 a within inside one.1 ∙ sym (turned_shows c w v free a gate within turned one.0 one.1)) is
