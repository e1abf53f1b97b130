-- The lines of a circuit and their places.
use Rattle.std.proofs.Common.{◌≡◌, ◌≢◌, ℕ, ◌+◌, ◌-◌, ◌<◌, ◌≤◌, List, ◌++◌, length, eqb, get_or, sym, ◌∙◌, ap, subst, arith, inl, inr}
use Rattle.std.specs.Prelude.{false, Contains, IsPermutation}
use Rattle.std.specs.List.{IsDistinct, range_with_len}
use Rattle.std.proofs.lemmas.Bool.{cases_lt, eq-eqb, ne_eqb}
use Rattle.std.proofs.lemmas.List.{get_or_append_left, get_or-append_right, get_or_default, length-append}
use Rattle.std.proofs.lemmas.List.FromFn.{length-range_with_len, get_or-range_with_len}
use Rattle.std.proofs.lemmas.List.Sorted.{IsPermutation-append_right, IsPermutation-sym, Contains-permutation}
use Rattle.std.proofs.lemmas.Map.Keys.{IsDistinct-IsPermutation, IsDistinct-from_apart, apart_from_distinct}
use Rattle.net_model.specs.Circuit.{Circuit, line_count, all_lines, gate_lines, Feeds}
use Rattle.net_model.specs.Wiring.{Wiring, IsWiring}
use Rattle.net_model.proofs.Elements.{eq-comm, true_false}
use Rattle.net_model.proofs.Orders.{Contains-range, range-within, reader_is_gate}
use Rattle.net_model.proofs.Places.{places_are_gates, later_place}
use Rattle.net_model.proofs.Ranges.{range-append}
use Rattle.pair_scope.specs.Places.{ArePlacesOf, from_end}

-- a place counted twice from the end is the place
pub end_twice : (count place : ℕ) → place < count → from_end count (from_end count place) ≡ place
end_twice count place h = omega arith

-- ---- all lines, in an order

range_apart : (n i j d : ℕ) → i < j → j < length (range_with_len 0 n) → eqb (get_or (range_with_len 0 n) i d) (get_or (range_with_len 0 n) j d) ≡ false
range_apart n i j d lt h =
    let long = length-range_with_len 0 n in
    let first = get_or-range_with_len 0 n i d (omega (arith, h, long)) in
    let second = get_or-range_with_len 0 n j d (omega (arith, h, long)) in
    ne_eqb (get_or (range_with_len 0 n) i d) (get_or (range_with_len 0 n) j d) (λ e. omega (arith, lt, first, second, e))

module _ (c : Circuit) (wiring : Wiring) (wired : IsWiring c wiring) (lines : List ℕ) (are : lines ≡ range_with_len 0 c.sources ++ wiring.order) where
  pub lines_count : length lines ≡ line_count c
  lines_count = ap length are ∙ length-append (range_with_len 0 c.sources) wiring.order ∙ omega (arith, length-range_with_len 0 c.sources, places_are_gates c wiring wired)

  lines_permuted : IsPermutation lines (all_lines c)
  lines_permuted =
      subst (λ xs. IsPermutation lines xs) (sym (range-append 0 c.sources (length c.gates) ∙ ap (λ n. range_with_len 0 c.sources ++ range_with_len n (length c.gates)) from_none))
      (subst (λ xs. IsPermutation xs (range_with_len 0 c.sources ++ gate_lines c)) (sym are) (IsPermutation-append_right (range_with_len 0 c.sources) wiring.order (gate_lines c) wired.order.whole))
    where
      from_none : 0 + c.sources ≡ c.sources
      from_none = omega arith

  lines_distinct : IsDistinct eqb lines
  lines_distinct = IsDistinct-IsPermutation eqb eq-comm (all_lines c) lines (IsPermutation-sym lines (all_lines c) lines_permuted) (IsDistinct-from_apart eqb (all_lines c) (range_apart (line_count c)))

  -- no line is at two places
  pub lines_apart : (j k : ℕ) → j < k → k < length lines → get_or lines j 0 ≢ get_or lines k 0
  lines_apart j k lt h e = true_false (eqb (get_or lines j 0) (get_or lines k 0)) (eq-eqb (get_or lines j 0) (get_or lines k 0) e) (apart_from_distinct eqb lines j k 0 lines_distinct lt h)

  -- each line has a place
  pub lines_all : (line : ℕ) → line < line_count c → Contains lines line
  lines_all line h = Contains-permutation (all_lines c) lines line (IsPermutation-sym lines (all_lines c) lines_permuted) (Contains-range 0 (line_count c) line (omega arith) (omega (arith, h)))

  -- nothing but lines has a place
  pub lines_inside : (line : ℕ) → Contains lines line → line < line_count c
  lines_inside line m = let within = range-within 0 (line_count c) line (Contains-permutation lines (all_lines c) line lines_permuted m) in omega (arith, within.1)

  pub line_inside : (place : ℕ) → place < line_count c → get_or lines place 0 < line_count c
  line_inside place h = lines_inside (get_or lines place 0) (place, omega (arith, h, lines_count), get_or_default lines place (get_or lines place 0) 0 (omega (arith, h, lines_count)))

  -- the sources come first
  source_at : (place : ℕ) → place < c.sources → get_or lines place 0 ≡ place
  source_at place h =
      ap (λ xs. get_or xs place 0) are
      ∙ get_or_append_left (range_with_len 0 c.sources) wiring.order 0 place (omega (arith, h, length-range_with_len 0 c.sources))
      ∙ get_or-range_with_len 0 c.sources place 0 h
      ∙ omega arith

  -- a gate's place is after the sources
  pub gate_behind : (place : ℕ) → c.sources ≤ get_or lines place 0 → c.sources ≤ place
  gate_behind place h = elim (cases_lt place c.sources) [
    | inl source ↦ absurd (omega (arith, h, source_at place source, source))
    | inr gate ↦ gate
  ]

  -- after the sources come the gates of the order
  pub gate_line : (place : ℕ) → c.sources ≤ place → get_or lines place 0 ≡ get_or wiring.order (place - c.sources) 0
  gate_line place h = ap (λ xs. get_or xs place 0) are ∙ get_or-append_right (range_with_len 0 c.sources) wiring.order c.sources place 0 (length-range_with_len 0 c.sources) h

  pub gate_place : (at : ℕ) → get_or lines (c.sources + at) 0 ≡ get_or wiring.order at 0
  gate_place at = gate_line (c.sources + at) (omega arith) ∙ ap (λ n. get_or wiring.order n 0) (let e : c.sources + at - c.sources ≡ at = omega arith in e)

  -- a line that a gate reads comes before the gate's line
  pub stands_before : (first second : ℕ) → first < line_count c → second < line_count c → Feeds c (get_or lines first 0) (get_or lines second 0) → first < second
  stands_before first second h k feeds =
      let gates = places_are_gates c wiring wired in
      let driven = reader_is_gate c (get_or lines first 0) (get_or lines second 0) feeds in
      let later : c.sources ≤ second = gate_behind second driven.0 in
      elim (cases_lt first c.sources) [
        | inl source ↦ omega (arith, source, later)
        | inr gate ↦
            let before = later_place c wiring wired (first - c.sources) (second - c.sources) (omega (arith, gates, h, gate)) (omega (arith, gates, k, later))
            (subst (λ l. Feeds c l (get_or wiring.order (second - c.sources) 0)) (gate_line first gate) (subst (λ l. Feeds c (get_or lines first 0) l) (gate_line second later) feeds)) in
            omega (arith, before, gate, later)
      ]

-- ---- the place of a line

module _ (c : Circuit) (wiring : Wiring) (lines places : List ℕ) (is : ArePlacesOf c wiring lines places) where
  pub place_of : (line : ℕ) → line < line_count c → (get_or places line 0 < line_count c) × (get_or lines (get_or places line 0) 0 ≡ line)
  place_of line h =
      let count = lines_count c wiring is.wired lines is.are in
      let found = lines_all c wiring is.wired lines is.are line h in
      let at = found.0 in
      let inside : at < line_count c = omega (arith, found.1, count) in
      let there : get_or lines at 0 ≡ line = get_or_default lines at 0 line found.1 ∙ found.2 in
      let place : get_or places line 0 ≡ at = ap (λ l. get_or places l 0) (sym there) ∙ is.each at inside in
      (omega (arith, place, inside), ap (λ p. get_or lines p 0) place ∙ there)

  -- no other place has the line
  pub same_place : (first second : ℕ) → first < line_count c → second < line_count c → get_or lines first 0 ≡ get_or lines second 0 → first ≡ second
  same_place first second h k e = sym (is.each first h) ∙ ap (λ l. get_or places l 0) e ∙ is.each second k
