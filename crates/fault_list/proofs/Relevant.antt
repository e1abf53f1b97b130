-- The relevant lines, from the reached positions back along an order of the gates.
use Rattle.std.proofs.Common.{◌≡◌, ◌∙◌, ℕ, zero, suc, ◌+◌, ◌<◌, ◌≤◌, inl, inr, Bool, true, false, List, length, get_or, sym, ap, arith, subst}
use Rattle.std.specs.Prelude.{Some, Contains, slice_get, ◌==◌}
use Rattle.std.specs.Cmp.{both_ways}
use Rattle.std.specs.List.{list_any}
use Rattle.std.proofs.lemmas.Bool.{cases_eq, eqb-true, or_cases}
use Rattle.std.proofs.lemmas.Option.{slice_get-get_or, slice_get_within, same_Some}
use Rattle.net_model.specs.declared.fault.Fault.{Fault}
use Rattle.net_model.specs.Circuit.{Circuit, IsCircuit, line_count, pins_of, Feeds}
use Rattle.net_model.specs.Order.{IsOrder}
use Rattle.net_model.specs.Answer.{bit_at}
use Rattle.net_model.specs.Scope.{leads_within, leads_to, is_reached, reached_positions, is_relevant}
use Rattle.net_model.proofs.Copies.{pins_inside}
use Rattle.net_model.proofs.Elements.{true_false, passing}
use Rattle.net_model.proofs.Orders.{order_has, reader_is_gate}
use Rattle.net_model.proofs.Relevance.{listed_reached, relevant_back, relevant_shown}
use Rattle.net_model.proofs.SetSoFar.{fits_from}
use Rattle.fault_list.specs.Scope.{AreMarksOfTest, AreReachedMarked, MarksLines}

-- ---- back along the order

-- the marks are right as far as they go, and closed at the gates starting at a place of the order
pub record RelevantFrom (c : Circuit) (f g : Fault) (order : List ℕ) (i : ℕ) (marks : List Bool) : Type 0 where
  pub whole : length marks ≡ line_count c
  pub sound : (line : ℕ) → bit_at marks line ≡ true → is_relevant c f g line ≡ true
  pub shown : (at : ℕ) → at < length c.positions → is_reached c f g at ≡ true → bit_at marks (get_or c.positions at 0) ≡ true
  pub closed : (k reader line : ℕ) → i ≤ k → slice_get order k ≡ Some reader → Feeds c line reader → bit_at marks reader ≡ true → bit_at marks line ≡ true

module _ (c : Circuit) (w : IsCircuit c) (f g : Fault) (order : List ℕ) (is : IsOrder c order) where
  pub relevant_none : (reached marks : List Bool) → AreMarksOfTest (is_reached c f g) (length c.positions) reached → AreReachedMarked c.positions reached (line_count c) marks → RelevantFrom c f g order (length order) marks
  relevant_none reached marks are shown = record {
    whole = shown.whole;
    sound = λ line e.
        let at = shown.no_others line e in
        subst (λ l. is_relevant c f g l ≡ true) at.3 (relevant_shown c f g at.0 at.1 (sym (are.each at.0 at.1) ∙ at.2));
    shown = λ at h e. shown.shown at h (are.each at h ∙ e);
    closed = λ k reader line h there m e. absurd (omega (arith, h, slice_get_within order k reader there));
  }

  -- a gate that is marked marks what it reads
  pub relevant_more : (i line : ℕ) (marks new : List Bool) → slice_get order i ≡ Some line → bit_at marks line ≡ true → MarksLines (pins_of c line) marks new
      → RelevantFrom c f g order (i + 1) marks → RelevantFrom c f g order i new
  relevant_more i line marks new there marked more so_far = record {
    whole = more.whole ∙ so_far.whole;
    sound = λ read e.
        elim (more.no_others read e) [
          | inl before ↦ so_far.sound read before
          | inr m ↦ relevant_back c f g w.acyclic read line m (so_far.sound line marked)
        ];
    shown = λ at h e. more.old_stay (get_or c.positions at 0) (so_far.shown at h e);
    closed = λ k reader read h at m e.
        elim (cases_eq i k) [
          | inl same ↦
              let reader_is : line ≡ reader = same_Some line reader (sym there ∙ (ap (slice_get order) same ∙ at)) in
              more.lines_are read (omega (arith, so_far.whole, pins_inside c w reader read m)) (subst (λ l. Contains (pins_of c l) read) (sym reader_is) m)
          | inr other ↦
              elim (more.no_others reader e) [
                | inl before ↦ more.old_stay read (so_far.closed k reader read (omega arith) at m before)
                | inr fed ↦
                    let driven = reader_is_gate c read reader m in
                    let earlier : k < i = is.sorted i k reader line there fed driven.0 at in
                    absurd (omega arith)
              ]
        ];
  }

  -- a gate that isn't marked marks nothing
  pub relevant_skip : (i line : ℕ) (marks : List Bool) → slice_get order i ≡ Some line → bit_at marks line ≡ false → RelevantFrom c f g order (i + 1) marks → RelevantFrom c f g order i marks
  relevant_skip i line marks there unmarked so_far = record {
    whole = so_far.whole;
    sound = so_far.sound;
    shown = so_far.shown;
    closed = λ k reader read h at m e.
        elim (cases_eq i k) [
          | inl same ↦
              let reader_is : line ≡ reader = same_Some line reader (sym there ∙ (ap (slice_get order) same ∙ at)) in
              true_false (bit_at marks reader) e (subst (λ l. bit_at marks l ≡ false) reader_is unmarked)
          | inr other ↦ so_far.closed k reader read (omega arith) at m e
        ];
  }

  -- once all gates are done, whatever leads to a marked line is marked
  marked_back : (marks : List Bool) → RelevantFrom c f g order 0 marks → (n line end : ℕ) → leads_within c n line end ≡ true → bit_at marks end ≡ true → bit_at marks line ≡ true
  marked_back marks all zero line end t e = subst (λ l. bit_at marks l ≡ true) (sym (eqb-true line end t)) e
  marked_back marks all (suc n) line end t e =
      elim (or_cases (line == end) (list_any (leads_within c n line) (pins_of c end)) t) [
        | inl here ↦ subst (λ l. bit_at marks l ≡ true) (sym (eqb-true line end here)) e
        | inr through ↦
            let pin = passing (leads_within c n line) (pins_of c end) through in
            let driven = reader_is_gate c pin.0 end pin.1 in
            let at = order_has c (fits_from c w) order is end driven.0 driven.1 in
            marked_back marks all n line pin.0 pin.2 (all.closed at.0 end pin.0 (omega arith) (slice_get-get_or order at.0 end at.1 ∙ ap Some at.2) pin.1 e)
      ]

  pub relevant_all : (marks : List Bool) → RelevantFrom c f g order 0 marks → AreMarksOfTest (is_relevant c f g) (line_count c) marks
  unfolding leads_to is_relevant
  relevant_all marks all = record {
    whole = all.whole;
    each = λ line h.
        both_ways (bit_at marks line) (is_relevant c f g line) (all.sound line)
        (λ t.
        let w = passing (λ at. leads_to c line (get_or c.positions at 0)) (reached_positions c f g) t in
        let at = listed_reached c f g w.0 w.1 in
        marked_back marks all (length c.gates) line (get_or c.positions w.0 0) w.2 (all.shown w.0 at.0 at.1));
  }
