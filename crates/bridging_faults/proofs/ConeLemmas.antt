-- The cones of a line, along an order of the gates and back.
use Rattle.std.proofs.Common.{◌≡◌, ◌≢◌, ◌∙◌, ℕ, zero, suc, ◌+◌, ◌<◌, ◌≤◌, inl, inr, Bool, true, false, List, length, take, set, get_or, refl, sym, ap, arith, subst}
use Rattle.std.specs.Prelude.{Some, Contains, slice_get, ◌==◌, ◌||◌}
use Rattle.std.specs.Cmp.{both_ways}
use Rattle.std.specs.List.{list_any}
use Rattle.std.proofs.lemmas.Bool.{cases_eq, cases_lt, eqb-true, eq-eqb, or_cases}
use Rattle.std.proofs.lemmas.List.{get_or-set_same, get_or-set_other, get_or_past, length-set, take_more, take_all}
use Rattle.std.proofs.lemmas.List.Elements.{Contains-push_cases}
use Rattle.std.proofs.lemmas.Option.{slice_get-get_or, slice_get_within, same_Some}
use Rattle.std.proofs.Math.Bool.{or-false}
use Rattle.net_model.specs.Circuit.{Circuit, IsCircuit, line_count, pins_of, Feeds}
use Rattle.net_model.specs.Order.{IsOrder}
use Rattle.net_model.specs.Answer.{bit_at}
use Rattle.net_model.specs.Scope.{leads_within, leads_to}
use Rattle.net_model.proofs.Copies.{pins_inside}
use Rattle.net_model.proofs.Elements.{true_false, passing, same_any}
use Rattle.net_model.proofs.Orders.{order_has, order_only, order_after, reader_is_gate}
use Rattle.net_model.proofs.Relevance.{leads_back}
use Rattle.net_model.proofs.ScopeLaws.{leads_here, no_longer}
use Rattle.net_model.proofs.SetSoFar.{fits_from}
use Rattle.fault_list.specs.Scope.{AreMarksOfTest, MarksLines}
use Rattle.fault_list.proofs.Table.{no_pins}

-- ---- forward along the order

-- The sources and the first `i` gates have their marks.
pub record FanOutSoFar (c : Circuit) (from : ℕ) (order : List ℕ) (i : ℕ) (marks : List Bool) : Type 0 where
  pub whole : length marks ≡ line_count c
  pub sources : (line : ℕ) → line < c.sources → bit_at marks line ≡ leads_to c from line
  pub gates : (line : ℕ) → Contains (take i order) line → bit_at marks line ≡ leads_to c from line

-- ---- back along the order

-- Each mark is right, the line itself is marked, and each marked gate starting at place `i` of the order marks what it
-- reads.
pub record FanInFrom (c : Circuit) (to : ℕ) (order : List ℕ) (i : ℕ) (marks : List Bool) : Type 0 where
  pub whole : length marks ≡ line_count c
  pub sound : (line : ℕ) → bit_at marks line ≡ true → leads_to c line to ≡ true
  pub own : bit_at marks to ≡ true
  pub closed : (k reader line : ℕ) → i ≤ k → slice_get order k ≡ Some reader → Feeds c line reader → bit_at marks reader ≡ true → bit_at marks line ≡ true

module _ (c : Circuit) (w : IsCircuit c) (order : List ℕ) (is : IsOrder c order) where
  module _ (from : ℕ) where
    -- a line is led to if it is the line or reads one that is led to
    leads_step : (line : ℕ) → leads_to c from line ≡ (from == line || list_any (leads_to c from) (pins_of c line))
    unfolding leads_to
    leads_step line = no_longer c w.acyclic from (length c.gates) line (w.acyclic.bounded line)

    pub out_none : (marks : List Bool) → AreMarksOfTest (λ line. from == line) (line_count c) marks → FanOutSoFar c from order 0 marks
    out_none marks first = record {
      whole = first.whole;
      sources = λ line h.
          first.each line (omega (arith, h))
          ∙ (sym (or-false (from == line)) ∙ (ap (λ pins. from == line || list_any (leads_to c from) pins) (sym (no_pins c line h)) ∙ sym (leads_step line)));
      gates = λ line m. absurd (omega (arith, m.1));
    }

    pub out_more : (i : ℕ) (marks : List Bool) (line : ℕ) (bit : Bool) → i < length order → get_or order i 0 ≡ line → bit ≡ (from == line || list_any (bit_at marks) (pins_of c line))
        → FanOutSoFar c from order i marks → FanOutSoFar c from order (i + 1) (set marks line bit)
    out_more i marks line bit h at bit_is so_far =
        let range : (c.sources ≤ line) × (line < line_count c) = let P : ℕ → Type 0 = λ l. (c.sources ≤ l) × (l < line_count c) in subst P at (order_only c (fits_from c w) order is i h) in
        let inside : line < length marks = omega (arith, so_far.whole, range.1) in
        let before : (pin : ℕ) → Feeds c pin line → bit_at marks pin ≡ leads_to c from pin =
        λ pin reads. elim (order_after c (fits_from c w) order is i pin h (subst (Feeds c pin) (sym at) reads)) [
          | inl source ↦ so_far.sources pin source
          | inr earlier ↦ so_far.gates pin earlier
        ] in
        let right : bit ≡ leads_to c from line =
        bit_is ∙ (ap (λ b. from == line || b) (same_any (bit_at marks) (leads_to c from) (pins_of c line) before) ∙ sym (leads_step line)) in
        record {
          whole = length-set marks line bit ∙ so_far.whole;
          sources = λ source k. get_or-set_other marks line source bit false (let ne : source ≢ line = omega (arith, range.0, k) in ne) ∙ so_far.sources source k;
          gates = λ other has.
              elim (cases_eq other line) [
                | inl same ↦ let P : ℕ → Type 0 = λ l. bit_at (set marks line bit) l ≡ leads_to c from l in subst P (sym same) (get_or-set_same marks line bit false inside ∙ right)
                | inr ne ↦ get_or-set_other marks line other bit false ne ∙
                    (elim (Contains-push_cases (take i order) (get_or order i 0) other (rw (take_more order i 0 h) at has)) [
                      | inl earlier ↦ so_far.gates other earlier
                      | inr here ↦ absurd (ne (sym here ∙ at))
                    ])
              ];
        }

    pub out_all : (i : ℕ) (marks : List Bool) → length order ≤ i → FanOutSoFar c from order i marks → AreMarksOfTest (leads_to c from) (line_count c) marks
    out_all i marks h so_far = record {
      whole = so_far.whole;
      each = λ line k.
          elim (cases_lt line c.sources) [
            | inl source ↦ so_far.sources line source
            | inr gate ↦ so_far.gates line (rw (take_all i order h) (order_has c (fits_from c w) order is line gate k))
          ];
    }

  module _ (to : ℕ) where
    leads_own : (line : ℕ) → (to == line) ≡ true → leads_to c line to ≡ true
    unfolding leads_to
    leads_own line e = leads_here c (length c.gates) line to (eq-eqb line to (sym (eqb-true to line e)))

    pub in_none : (marks : List Bool) → to < line_count c → AreMarksOfTest (λ line. to == line) (line_count c) marks → FanInFrom c to order (length order) marks
    in_none marks h first = record {
      whole = first.whole;
      sound = λ line e. elim (cases_lt line (line_count c)) [
        | inl inside ↦ leads_own line (sym (first.each line inside) ∙ e)
        | inr past ↦ true_false (bit_at marks line) e (get_or_past marks line false (omega (arith, past, first.whole)))
      ];
      own = first.each to h ∙ eq-eqb to to refl;
      closed = λ k reader line le there m e. absurd (omega (arith, le, slice_get_within order k reader there));
    }

    -- a gate that is marked marks what it reads
    pub in_more : (i line : ℕ) (marks new : List Bool) → slice_get order i ≡ Some line → bit_at marks line ≡ true → MarksLines (pins_of c line) marks new → FanInFrom c to order (i + 1) marks → FanInFrom c to order i new
    in_more i line marks new there marked more so_far = record {
      whole = more.whole ∙ so_far.whole;
      sound = λ read e.
          elim (more.no_others read e) [
            | inl before ↦ so_far.sound read before
            | inr m ↦ leads_back c w.acyclic read line to m (so_far.sound line marked)
          ];
      own = more.old_stay to so_far.own;
      closed = λ k reader read h at m e.
          elim (cases_eq i k) [
            | inl same ↦
                let reader_is : line ≡ reader = same_Some line reader (sym there ∙ (ap (slice_get order) same ∙ at)) in
                more.lines_are read (omega (arith, so_far.whole, pins_inside c w reader read m)) (subst (λ l. Contains (pins_of c l) read) (sym reader_is) m)
            | inr other ↦
                elim (more.no_others reader e) [
                  | inl before ↦ more.old_stay read (so_far.closed k reader read (omega arith) at m before)
                  | inr fed ↦
                      let driven = reader_is_gate c read reader m in
                      let earlier : k < i = is.sorted i k reader line there fed driven.0 at in
                      absurd (omega arith)
                ]
          ];
    }

    -- a gate that isn't marked marks nothing
    pub in_skip : (i line : ℕ) (marks : List Bool) → slice_get order i ≡ Some line → bit_at marks line ≡ false → FanInFrom c to order (i + 1) marks → FanInFrom c to order i marks
    in_skip i line marks there unmarked so_far = record {
      whole = so_far.whole;
      sound = so_far.sound;
      own = so_far.own;
      closed = λ k reader read h at m e.
          elim (cases_eq i k) [
            | inl same ↦
                let reader_is : line ≡ reader = same_Some line reader (sym there ∙ (ap (slice_get order) same ∙ at)) in
                true_false (bit_at marks reader) e (subst (λ l. bit_at marks l ≡ false) reader_is unmarked)
            | inr other ↦ so_far.closed k reader read (omega arith) at m e
          ];
    }

    -- once all gates are done, whatever leads to a marked line is marked
    marked_back : (marks : List Bool) → FanInFrom c to order 0 marks → (n line end : ℕ) → leads_within c n line end ≡ true → bit_at marks end ≡ true → bit_at marks line ≡ true
    marked_back marks all zero line end t e = subst (λ l. bit_at marks l ≡ true) (sym (eqb-true line end t)) e
    marked_back marks all (suc n) line end t e =
        elim (or_cases (line == end) (list_any (leads_within c n line) (pins_of c end)) t) [
          | inl here ↦ subst (λ l. bit_at marks l ≡ true) (sym (eqb-true line end here)) e
          | inr through ↦
              let pin = passing (leads_within c n line) (pins_of c end) through in
              let driven = reader_is_gate c pin.0 end pin.1 in
              let at = order_has c (fits_from c w) order is end driven.0 driven.1 in
              marked_back marks all n line pin.0 pin.2 (all.closed at.0 end pin.0 (omega arith) (slice_get-get_or order at.0 end at.1 ∙ ap Some at.2) pin.1 e)
        ]

    pub in_all : (marks : List Bool) → FanInFrom c to order 0 marks → AreMarksOfTest (λ from. leads_to c from to) (line_count c) marks
    unfolding leads_to
    in_all marks all = record {
      whole = all.whole;
      each = λ line h. both_ways (bit_at marks line) (leads_to c line to) (all.sound line) (λ t. marked_back marks all (length c.gates) line to t all.own);
    }
