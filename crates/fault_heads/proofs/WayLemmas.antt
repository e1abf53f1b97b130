-- The way of a line, from that of its only destination, and the ways of all lines.
use Rattle.std.proofs.Common.{◌≡◌, ◌≢◌, ◌∙◌, ℕ, ◌<◌, ◌≤◌, ◌+◌, ◌⊎◌, inl, inr, List, length, get_or, set, refl, sym, ap, subst, arith}
use Rattle.std.specs.Prelude.{Bool, true, false, not, Some, slice_get, nat_lt, ◌&&◌}
use Rattle.std.proofs.lemmas.Bool.{cases_eq, cases_lt}
use Rattle.std.proofs.lemmas.Bool.Decides.{nat_tests}
use Rattle.std.proofs.lemmas.List.{length-set, get_or-set_same, get_or-set_other, get_or_default}
use Rattle.std.proofs.lemmas.Option.{slice_get_within, slice_get-get_or, get_or_from_slice_get}
use Rattle.net_model.specs.Circuit.{Circuit, IsCircuit, line_count, pins_of, Feeds}
use Rattle.net_model.specs.Order.{IsOrder}
use Rattle.net_model.specs.Answer.{bit_at, IsAnswer}
use Rattle.net_model.proofs.Orders.{order_has, order_only, reader_is_gate}
use Rattle.net_model.proofs.SetSoFar.{fits_from}
use Rattle.word_sim.specs.declared.lanes.TheConstants.{LANES}
use Rattle.word_sim.specs.GoodSim.{GoodSim, vectors_of}
use Rattle.fault_heads.specs.declared.head.Head.{Head}
use Rattle.fault_heads.specs.declared.head.Head.TheVariants as head
use Rattle.fault_heads.specs.declared.head.Turn.{Turn}
use Rattle.fault_heads.specs.Turned.{vector_at, IsFreeLane, IsLive, IsFalsePast, turning, turned_if, bits_differ}
use Rattle.fault_heads.specs.Ways.{IsOnlyDestination, IsWay, AreWays}
use Rattle.fault_heads.specs.Laws.{value_with_pin}
use Rattle.fault_heads.proofs.OneWay.{way_law}

-- ---- one way after another

-- a turned line turns the next head or changes no answer
pub chained : (c : Circuit) (free v answer : List Bool) (line : ℕ) (next : Head) (first second : Bool) → IsAnswer c (turned_if c free (head.Line line) first) v answer
    → (IsAnswer c (turning c free (head.Line line)) v answer → IsAnswer c (turned_if c free next second) v answer) → IsAnswer c (turned_if c free next (first && second)) v answer
chained c free v answer line next true second is onward = onward is
chained c free v answer line next false second is onward = is

and_past : (first second : Bool) → first ≡ false → (first && second) ≡ false
and_past true second e = cc
and_past false second e = refl

live_bit : (lane n : ℕ) → lane < n → nat_lt lane n ≡ true
live_bit lane n h = grind (arith, nat_tests, h)

past_bit : (lane n : ℕ) → n ≤ lane → nat_lt lane n ≡ false
past_bit lane n h = grind (arith, nat_tests, h)

-- a line that is the end of its own way
pub own_way : (good : GoodSim) (line : ℕ) (way : Turn) (live : List Bool) → line < line_count good.circuit → ((gate pin : ℕ) → IsOnlyDestination good.circuit line gate pin → ⊥)
    → way.head ≡ head.Line line → way.lanes ≡ live → IsLive good live → IsWay good line way
own_way good line way live inside ends head_is lanes_are is_live = record {
  inside = rw head_is inside;
  end = rw head_is ends;
  turns = λ lane free answer is a.
      let row : bit_at way.lanes lane ≡ true = ap (λ xs. bit_at xs lane) lanes_are ∙ (is_live lane is.within ∙ live_bit lane (length (vectors_of good)) is.live) in
      rw (head_is, row) a;
  past = λ lane past within. ap (λ xs. bit_at xs lane) lanes_are ∙ (is_live lane within ∙ past_bit lane (length (vectors_of good)) past);
}

-- the way of a line that goes on with a gate
pub longer_way : (good : GoodSim) → IsCircuit good.circuit → (line gate pin : ℕ) (way next : Turn) (row both : List Bool) → IsOnlyDestination good.circuit line gate pin → IsWay good gate next → way.head ≡ next.head → way.lanes ≡ both
    → ((lane : ℕ) (free : List Bool) → IsFreeLane good lane free → bit_at row lane ≡ bits_differ (value_with_pin good.circuit (vector_at good lane) free gate pin (not (bit_at free line))) (bit_at free gate)) → IsFalsePast good row
    → ((lane : ℕ) → lane < LANES → bit_at both lane ≡ (bit_at row lane && bit_at next.lanes lane)) → IsWay good line way
longer_way good w line gate pin way next row both only onward head_is lanes_are passes past and = record {
  inside = rw head_is onward.inside;
  end = rw head_is onward.end;
  turns = λ lane free answer is a.
      let c = good.circuit in
      let v = vector_at good lane in
      let turned = way_law c line gate pin v free answer w only is.agrees a in
      let at_gate = subst (λ b. IsAnswer c (turned_if c free (head.Line gate) b) v answer) (sym (passes lane free is)) turned in
      let on = chained c free v answer gate next.head (bit_at row lane) (bit_at next.lanes lane) at_gate (onward.turns lane free answer is) in
      let lanes : bit_at way.lanes lane ≡ (bit_at row lane && bit_at next.lanes lane) = ap (λ xs. bit_at xs lane) lanes_are ∙ and lane is.within in
      rw (head_is, lanes) on;
  past = λ lane gone within. ap (λ xs. bit_at xs lane) lanes_are ∙ (and lane within ∙ and_past (bit_at row lane) (bit_at next.lanes lane) (past lane gone within));
}

-- the only destination of a line is a pin of a gate
pub destination_is_gate : (c : Circuit) (line gate pin : ℕ) → IsOnlyDestination c line gate pin → (c.sources ≤ gate) × (gate < line_count c)
destination_is_gate c line gate pin only = reader_is_gate c line gate (pin, slice_get_within (pins_of c gate) pin line only.reads, get_or_from_slice_get (pins_of c gate) pin line line only.reads)

-- ---- the ways so far

-- There is a place for each line, and the lines for which `told` holds have their ways.
pub record AreWaysSoFar (good : GoodSim) (told : ℕ → Type 0) (ways : List Turn) : Type 0 where
  pub whole : length ways ≡ line_count good.circuit
  pub each : (line : ℕ) → told line → (way : Turn) → slice_get ways line ≡ Some way → IsWay good line way

slice_get-set_same : {A : Type 0} (xs : List A) (i : ℕ) (x y : A) → i < length xs → slice_get (set xs i x) i ≡ Some y → x ≡ y
slice_get-set_same xs i x y h e = sym (get_or-set_same xs i x y h) ∙ get_or_from_slice_get (set xs i x) i y y e

slice_get-set_other : {A : Type 0} (xs : List A) (i j : ℕ) (x y : A) → j ≢ i → slice_get (set xs i x) j ≡ Some y → slice_get xs j ≡ Some y
slice_get-set_other xs i j x y ne e =
    let within : j < length xs = omega (arith, slice_get_within (set xs i x) j y e, length-set xs i x) in
    slice_get-get_or xs j y within ∙ ap Some (sym (get_or-set_other xs i j x y ne) ∙ get_or_from_slice_get (set xs i x) j y y e)

pub one_more : (good : GoodSim) (told after : ℕ → Type 0) (ways : List Turn) (line : ℕ) (way : Turn) → line < line_count good.circuit → AreWaysSoFar good told ways → IsWay good line way
    → ((l : ℕ) → after l → (l ≡ line) ⊎ told l) → AreWaysSoFar good after (set ways line way)
one_more good told after ways line way inside so_far is split = record {
  whole = length-set ways line way ∙ so_far.whole;
  each = λ l m w there. elim (cases_eq l line) [
    | inl same ↦
        let found : way ≡ w = slice_get-set_same ways line way w (omega (arith, inside, so_far.whole)) (subst (λ n. slice_get (set ways line way) n ≡ Some w) same there) in
        subst (λ n. IsWay good n w) (sym same) (subst (IsWay good line) found is)
    | inr apart ↦ elim (split l m) [
      | inl same ↦ absurd (apart same)
      | inr before ↦ so_far.each l before w (slice_get-set_other ways line l way w apart there)
    ]
  ];
}

-- The line is one of the gates starting at a place of the order.
abbrev pub FromPlace : List ℕ → ℕ → ℕ → Type 0
FromPlace order i line = (j : ℕ) × (i ≤ j) × (j < length order) × (get_or order j 0 ≡ line)

-- The line is a gate or one of the first sources.
abbrev pub GatesAndSources : Circuit → ℕ → ℕ → Type 0
GatesAndSources c first line = (c.sources ≤ line) ⊎ (line < first)

-- no line has its way yet
pub no_ways : (good : GoodSim) (order : List ℕ) (ways : List Turn) → length ways ≡ line_count good.circuit → AreWaysSoFar good (FromPlace order (length order)) ways
no_ways good order ways whole = record { whole = whole; each = λ line m way there. absurd (omega (arith, m.1, m.2)) }

module _ (good : GoodSim) (w : IsCircuit good.circuit) (order : List ℕ) (is : IsOrder good.circuit order) where
  -- the only destination of a gate's line is a pin of a later gate
  pub destination_later : (i gate pin : ℕ) → i < length order → IsOnlyDestination good.circuit (get_or order i 0) gate pin → FromPlace order (i + 1) gate
  destination_later i gate pin h only =
      let c = good.circuit in
      let line = get_or order i 0 in
      let feeds : Feeds c line gate = (pin, slice_get_within (pins_of c gate) pin line only.reads, get_or_from_slice_get (pins_of c gate) pin line line only.reads) in
      let at = reader_is_gate c line gate feeds in
      let found = order_has c (fits_from c w) order is gate at.0 at.1 in
      let place = found.0 in
      let there : get_or order place 0 ≡ gate = sym (get_or_default order place gate 0 found.1) ∙ found.2 in
      let at_place : slice_get order place ≡ Some gate = slice_get-get_or order place 0 found.1 ∙ ap Some there in
      let after : i < place = is.sorted place i line gate at_place feeds (order_only c (fits_from c w) order is i h).0 (slice_get-get_or order i 0 h) in
      (place, omega arith, found.1, there)

  pub gates_first : (ways : List Turn) → AreWaysSoFar good (FromPlace order 0) ways → AreWaysSoFar good (GatesAndSources good.circuit 0) ways
  gates_first ways so_far = record {
    whole = so_far.whole;
    each = λ line m way there.
        let within : line < line_count good.circuit = omega (arith, slice_get_within ways line way there, so_far.whole) in
        elim m [
          | inl gate ↦
              let found = order_has good.circuit (fits_from good.circuit w) order is line gate within in
              so_far.each line (found.0, omega arith, found.1, sym (get_or_default order found.0 line 0 found.1) ∙ found.2) way there
          | inr none ↦ absurd (omega (arith, none))
        ];
  }

pub all_ways : (good : GoodSim) (ways : List Turn) (first : ℕ) → good.circuit.sources ≤ first → AreWaysSoFar good (GatesAndSources good.circuit first) ways → AreWays good ways
all_ways good ways first all so_far = record {
  whole = so_far.whole;
  each = λ line way there. elim (cases_lt line good.circuit.sources) [
    | inl source ↦ so_far.each line (inr (omega (arith, source, all))) way there
    | inr gate ↦ so_far.each line (inl gate) way there
  ];
}
