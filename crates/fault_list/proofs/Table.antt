-- The table of a circuit's sites: where its rows start, and the slot of each site.
use Rattle.std.proofs.Common.{◌≡◌, ◌≢◌, ◌∙◌, ℕ, zero, suc, ◌+◌, ◌-◌, ◌<◌, ◌≤◌, ◌^◌, Bool, true, false, List, [], length, take, get_or, set, map, refl, sym, ap, arith, subst, inl, inr}
use Rattle.std.specs.Prelude.{None, Some, option_and_then, slice_get, sum_by, nat_lt, if◌then◌else◌}
use Rattle.std.specs.Bool.{then_some}
use Rattle.std.specs.List.{range_with_len}
use Rattle.std.proofs.lemmas.Bool.{cases_eq, cases_lt, false≢true}
use Rattle.std.proofs.lemmas.Bool.Decides.{nat_tests}
use Rattle.std.proofs.lemmas.List.{get_or-set_same, get_or-set_other, length-set, take_all}
use Rattle.std.proofs.lemmas.List.FromFn.{get_or-map-range_with_len, length-map-range_with_len}
use Rattle.std.proofs.lemmas.List.Sums.{sum_by_more}
use Rattle.std.proofs.lemmas.Option.{slice_get-get_or, slice_get_within, get_or_from_slice_get, option_and_then_some, slice_get_past, slice_get_cases, none-some, same_Some}
use Rattle.net_model.specs.declared.gate.Gate.{Gate}
use Rattle.net_model.specs.declared.fault.Site.{Site}
use Rattle.net_model.specs.declared.fault.Site.TheVariants.{Stem, Pin, Position}
use Rattle.net_model.specs.declared.fault.Fault.TheVariants.{Stuck}
use Rattle.net_model.specs.Circuit.{Circuit, IsCircuit, line_count, pins_of}
use Rattle.net_model.specs.Fault.{IsFaultOf}
use Rattle.fault_list.specs.Slots.{site_row, site_row_start, slot_of, ArePlaces}
use Rattle.net_model.proofs.DestinationCounts.{pins_of_item}
use Rattle.fault_list.proofs.Numbered.{IsPlaceOf}

-- ---- slots in any table

then_some-Some : {A : Type 0} (b : Bool) (x y : A) → then_some b x ≡ Some y → (b ≡ true) × (x ≡ y)
then_some-Some true x y e = (refl, cc)
then_some-Some false x y e = cc

if_then_some : {A : Type 0} (a b : Bool) (x y : A) → (if a then then_some b x else None) ≡ Some y → (a ≡ true) × (b ≡ true) × (x ≡ y)
if_then_some true b x y e = let h = then_some-Some b x y e in (refl, h.0, h.1)
if_then_some false b x y e = cc

row_of-one : (s t : Site) → (site_row s).0 ≡ (site_row t).0 → (site_row s).1 ≡ (site_row t).1 → s ≡ t
row_of-one (Stem line) (Stem other) e f = ap Stem (omega (arith, e))
row_of-one (Stem line) (Pin gate pin) e f = absurd (omega (arith, f))
row_of-one (Stem line) (Position at) e f = absurd (omega (arith, e))
row_of-one (Pin gate pin) (Stem line) e f = absurd (omega (arith, f))
row_of-one (Pin gate pin) (Pin other place) e f = let g : gate ≡ other = omega (arith, e) in let p : pin ≡ place = omega (arith, f) in λ i. Pin (g i) (p i)
row_of-one (Pin gate pin) (Position at) e f = absurd (omega (arith, e))
row_of-one (Position at) (Stem line) e f = absurd (omega (arith, e))
row_of-one (Position at) (Pin gate pin) e f = absurd (omega (arith, e))
row_of-one (Position at) (Position other) e f = ap Position f

-- the rows of a table start one after another
abbrev pub IsRising : List ℕ → Type 0
IsRising starts = (low high : ℕ) → low ≤ high → high < length starts → get_or starts low 0 ≤ get_or starts high 0

-- a site's slot is in its row
pub record IsSlot (starts : List ℕ) (site : Site) (slot : ℕ) : Type 0 where
  pub row : (site_row site).0 + 1 < length starts
  pub here : get_or starts (site_row site).0 0 + (site_row site).1 ≡ slot
  pub below : slot < get_or starts ((site_row site).0 + 1) 0

is_slot : (starts : List ℕ) (site : Site) (slot : ℕ) → slot_of starts site ≡ Some slot → IsSlot starts site slot
is_slot starts site slot e =
    let h = if_then_some (nat_lt ((site_row site).0 + 1) (length starts)) (nat_lt (get_or starts (site_row site).0 0 + (site_row site).1) (get_or starts ((site_row site).0 + 1) 0)) (get_or starts (site_row site).0 0 + (site_row site).1) slot e in
    let row : (site_row site).0 + 1 < length starts = grind (arith, nat_tests, h.0) in
    let below : get_or starts (site_row site).0 0 + (site_row site).1 < get_or starts ((site_row site).0 + 1) 0 = grind (arith, nat_tests, h.1) in
    record { row = row; here = h.2; below = omega (arith, below, h.2) }

slot_is : (starts : List ℕ) (site : Site) (slot : ℕ) → IsSlot starts site slot → slot_of starts site ≡ Some slot
slot_is starts site slot s =
    let row : nat_lt ((site_row site).0 + 1) (length starts) ≡ true = let h = s.row in grind (arith, nat_tests) in
    let below : nat_lt (get_or starts (site_row site).0 0 + (site_row site).1) (get_or starts ((site_row site).0 + 1) 0) ≡ true = let h = s.below in let e = s.here in grind (arith, nat_tests) in
    (λ i. if row i then then_some (below i) (get_or starts (site_row site).0 0 + (site_row site).1) else None) ∙ ap Some s.here

-- two different sites have different slots
one_site : (starts : List ℕ) → IsRising starts → (s t : Site) (slot : ℕ) → slot_of starts s ≡ Some slot → slot_of starts t ≡ Some slot → s ≡ t
one_site starts rising s t slot e f =
    let a = is_slot starts s slot e in
    let b = is_slot starts t slot f in
    elim (cases_eq (site_row s).0 (site_row t).0) [
      | inl same ↦ row_of-one s t same (let start = ap (λ n. get_or starts n 0) same in omega (arith, a.here, b.here, start))
      | inr other ↦
          elim (cases_lt (site_row s).0 (site_row t).0) [
            | inl low ↦ absurd (let h = rising ((site_row s).0 + 1) (site_row t).0 (omega arith) (omega (arith, b.row)) in omega (arith, h, a.below, b.here))
            | inr high ↦ absurd (let h = rising ((site_row t).0 + 1) (site_row s).0 (omega arith) (omega (arith, a.row)) in omega (arith, h, b.below, a.here))
          ]
    ]

-- ---- one place more

slice_get-set_same : (xs : List ℕ) (i x : ℕ) → i < length xs → slice_get (set xs i x) i ≡ Some x
slice_get-set_same xs i x h = slice_get-get_or (set xs i x) i 0 (omega (arith, length-set xs i x)) ∙ ap Some (get_or-set_same xs i x 0 h)

slice_get-set_other : (xs : List ℕ) (i x j y : ℕ) → j ≢ i → slice_get xs j ≡ Some y → slice_get (set xs i x) j ≡ Some y
slice_get-set_other xs i x j y ne e =
    slice_get-get_or (set xs i x) j 0 (omega (arith, length-set xs i x, slice_get_within xs j y e))
    ∙ ap Some (get_or-set_other xs i j x 0 ne ∙ get_or_from_slice_get xs j y 0 e)

module _ (starts : List ℕ) (sites : List Site) where
  -- the slots of the first sites have their places
  abbrev pub PlacedBelow : ℕ → List ℕ → Type 0
  PlacedBelow count places = (place : ℕ) (site : Site) → place < count → slice_get sites place ≡ Some site → option_and_then (slice_get places) (slot_of starts site) ≡ Some place

  pub placed_more : IsRising starts → ((j k : ℕ) (site : Site) → slice_get sites j ≡ Some site → slice_get sites k ≡ Some site → j ≡ k) → (count slot : ℕ) (site : Site) (places : List ℕ)
      → slice_get sites count ≡ Some site → slot_of starts site ≡ Some slot → slot < length places → PlacedBelow count places → PlacedBelow (count + 1) (set places slot count)
  placed_more rising once count slot site places here at inside so_far = λ place other h there.
      elim (cases_eq place count) [
        | inl same ↦
            let alike : other ≡ site = let e = subst (λ n. slice_get sites n ≡ Some other) same there in cc in
            ap (λ s. option_and_then (slice_get (set places slot count)) (slot_of starts s)) alike
            ∙ (ap (option_and_then (slice_get (set places slot count))) at
            ∙ (slice_get-set_same places slot count inside ∙ ap Some (sym same)))
        | inr differ ↦
            option_and_then_some (slice_get places) (slot_of starts other) place (so_far place other (omega (arith, h)) there)
            (λ before e f.
            ap (option_and_then (slice_get (set places slot count))) e
            ∙ slice_get-set_other places slot count before place
            (λ same. differ (once place count site (subst (λ s. slice_get sites place ≡ Some s) (one_site starts rising other site slot (subst (λ n. slot_of starts other ≡ Some n) same e) at) there) here))
            f)
      ]

-- ---- the place in a site's slot

module _ (starts places : List ℕ) (sites : List Site) (are : ArePlaces starts places sites) (site : Site) where
  pub no_place : option_and_then (slice_get places) (slot_of starts site) ≡ None → IsPlaceOf sites site None
  no_place none place = (λ e. absurd (none-some place e), λ there. absurd (none-some place (sym none ∙ are place site there)))

  -- the place that the slot has, and a test of whether the site is at that place
  pub place_if : (found : ℕ) → option_and_then (slice_get places) (slot_of starts site) ≡ Some found → (test : Bool)
      → (test ≡ true → slice_get sites found ≡ Some site) → (slice_get sites found ≡ Some site → test ≡ true) → IsPlaceOf sites site (then_some test found)
  place_if found at true right passes place = (λ e. ap (slice_get sites) (sym (same_Some found place e)) ∙ right refl, λ there. sym at ∙ are place site there)
  place_if found at false right passes place = (
    λ e. absurd (none-some place e),
    λ there. absurd (false≢true (passes (ap (slice_get sites) (same_Some found place (sym at ∙ are place site there)) ∙ there))),
  )

-- ---- the rows of a circuit

module _ (c : Circuit) where
  pub row_start-more : (line : ℕ) → site_row_start c (line + 2) ≡ site_row_start c (line + 1) + (1 + length (pins_of c line))
  row_start-more line =
      let next : line + 2 ≡ suc (suc line) = omega arith in
      let this : line + 1 ≡ suc line = omega arith in
      rw (next, this) refl

  rises : (row : ℕ) → site_row_start c row ≤ site_row_start c (suc row)
  rises zero = omega arith
  rises (suc line) = omega arith

  rises_by : (row more : ℕ) → site_row_start c row ≤ site_row_start c (row + more)
  rises_by row zero = let e : row + 0 ≡ row = omega arith in rw e (omega arith)
  rises_by row (suc more) = let e : row + suc more ≡ suc (row + more) = omega arith in rw e (omega (arith, rises_by row more, rises (row + more)))

  pub rises_to : (low high : ℕ) → low ≤ high → site_row_start c low ≤ site_row_start c high
  rises_to low high h = let e : low + (high - low) ≡ high = omega arith in subst (λ n. site_row_start c low ≤ site_row_start c n) e (rises_by low (high - low))

  pub no_pins : (line : ℕ) → line < c.sources → pins_of c line ≡ []
  no_pins line h = let test : nat_lt line c.sources ≡ true = grind (arith, nat_tests) in rw test refl

  row_start-source : (line : ℕ) → line ≤ c.sources → site_row_start c (suc line) ≡ length c.positions + line
  row_start-source zero h = omega arith
  row_start-source (suc line) h = omega (arith, row_start-source line (omega arith), ap length (no_pins line (omega arith)))

  pins_before : ℕ → ℕ
  pins_before count = sum_by (λ (gate : Gate). length gate.pins) (take count c.gates)

  row_start-gate : (count : ℕ) → count ≤ length c.gates → site_row_start c (suc (c.sources + count)) ≡ length c.positions + (c.sources + count) + pins_before count
  unfolding pins_before
  row_start-gate zero h = let e : c.sources + 0 ≡ c.sources = omega arith in rw e (omega (arith, row_start-source c.sources (omega arith)))
  row_start-gate (suc count) h =
      let e : c.sources + suc count ≡ suc (c.sources + count) = omega arith in
      let more : count + 1 ≡ suc count = omega arith in
      let all = λ (gate : Gate). length gate.pins in
      elim (slice_get_cases c.gates count).1 [
        | inl w ↦
            let added : pins_before (suc count) ≡ pins_before count + length w.0.pins =
            subst (λ n. sum_by all (take n c.gates) ≡ sum_by all (take count c.gates) + length w.0.pins) more (sum_by_more all c.gates count w.0 h ∙ ap (λ n. sum_by all (take count c.gates) + n) (ap all w.3)) in
            rw e (omega (arith, row_start-gate count (omega arith), ap length (pins_of_item c count w.0 w.2), added))
        | inr past ↦ absurd (omega (arith, past.0))
      ]

  pub row_start-few : IsCircuit c → (row : ℕ) → row ≤ line_count c + 1 → site_row_start c row < 2 ^ 26
  unfolding pins_before
  row_start-few w row h =
      let last : line_count c + 1 ≡ suc (c.sources + length c.gates) = omega arith in
      let all = λ (gate : Gate). length gate.pins in
      let end : site_row_start c (line_count c + 1) ≡ length c.positions + line_count c + sum_by all c.gates =
      rw last (row_start-gate (length c.gates) (omega arith) ∙ ap (λ gates. length c.positions + line_count c + sum_by all gates) (take_all (length c.gates) c.gates (omega arith))) in
      omega (arith, w.small, end, rises_to row (line_count c + 1) h)

  -- ---- the table of a circuit

  abbrev starts_of : List ℕ
  starts_of = map (site_row_start c) (range_with_len 0 (line_count c + 2))

  start_at : (row : ℕ) → row < line_count c + 2 → get_or starts_of row 0 ≡ site_row_start c row
  start_at row h = get_or-map-range_with_len (site_row_start c) 0 (line_count c + 2) row row 0 h (omega arith)

  pub row_count : length starts_of ≡ line_count c + 2
  row_count = length-map-range_with_len (site_row_start c) 0 (line_count c + 2)

  pub is_rising : IsRising starts_of
  is_rising low high h within =
      let inside : high < line_count c + 2 = omega (arith, within, row_count) in
      omega (arith, start_at low (omega arith), start_at high inside, rises_to low high h)

  pins_past : (line : ℕ) → line_count c ≤ line → pins_of c line ≡ []
  pins_past line h =
      let test : nat_lt line c.sources ≡ false = grind (arith, nat_tests) in
      rw (test, slice_get_past c.gates (line - c.sources) (omega arith)) refl

  at_row : (site : Site) → (site_row site).0 < line_count c + 1 → site_row_start c (site_row site).0 + (site_row site).1 < site_row_start c ((site_row site).0 + 1)
      → (slot : ℕ) × (slot_of starts_of site ≡ Some slot)
  at_row site row below = (
    site_row_start c (site_row site).0 + (site_row site).1,
    slot_is starts_of site (site_row_start c (site_row site).0 + (site_row site).1) (record {
      row = omega (arith, row, row_count);
      here = ap (λ n. n + (site_row site).1) (start_at (site_row site).0 (omega arith));
      below = omega (arith, below, start_at ((site_row site).0 + 1) (omega arith));
    }),
  )

  -- each site of the circuit has a slot
  pub has_slot : (site : Site) → IsFaultOf c (Stuck site false) → (slot : ℕ) × (slot_of starts_of site ≡ Some slot)
  has_slot (Stem line) h =
      let two : line + 1 + 1 ≡ line + 2 = omega arith in
      at_row (Stem line) (omega (arith, h)) (rw two (omega (arith, row_start-more line)))
  has_slot (Pin gate pin) h =
      let two : gate + 1 + 1 ≡ gate + 2 = omega arith in
      elim (cases_lt gate (line_count c)) [
        | inl inside ↦ at_row (Pin gate pin) (omega arith) (rw two (omega (arith, h, row_start-more gate)))
        | inr past ↦ absurd (omega (arith, h, ap length (pins_past gate past)))
      ]
  has_slot (Position at) h = at_row (Position at) (omega arith) (omega (arith, h))

  pub slot_within : (site : Site) (slot : ℕ) → slot_of starts_of site ≡ Some slot → slot < get_or starts_of (line_count c + 1) 0
  slot_within site slot e =
      let s = is_slot starts_of site slot e in
      let row : (site_row site).0 + 1 ≤ line_count c + 1 = omega (arith, s.row, row_count) in
      omega (arith, s.below, is_rising ((site_row site).0 + 1) (line_count c + 1) row (omega (arith, row_count)))

  -- ---- the same for a list of starts that is the circuit's

  pub rising_table : (starts : List ℕ) → starts ≡ starts_of → IsRising starts
  rising_table starts e = subst IsRising (sym e) is_rising

  pub within_table : (starts : List ℕ) → starts ≡ starts_of → (lines : ℕ) → lines ≡ line_count c → (site : Site) (slot : ℕ) → slot_of starts site ≡ Some slot → slot < get_or starts (lines + 1) 0
  within_table starts e lines f site slot at = rw (e, f) (slot_within site slot (subst (λ xs. slot_of xs site ≡ Some slot) e at))

  pub some_slot : (starts : List ℕ) → starts ≡ starts_of → (site : Site) → IsFaultOf c (Stuck site false) → (slot : ℕ) × (slot_of starts site ≡ Some slot)
  some_slot starts e site h = rw e (has_slot site h)
