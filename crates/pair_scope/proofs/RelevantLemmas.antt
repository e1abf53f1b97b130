-- The lines that lead to positions, found back from the lines that the positions show.
use Rattle.std.proofs.Common.{◌≡◌, ◌≢◌, ℕ, zero, suc, ◌+◌, ◌<◌, ◌≤◌, ◌⊎◌, List, length, get_or, refl, sym, ◌∙◌, ap, subst, arith, inl, inr}
use Rattle.std.specs.Prelude.{Bool, true, false, ◌==◌}
use Rattle.std.specs.Cmp.{both_ways}
use Rattle.std.specs.List.{list_any}
use Rattle.std.proofs.lemmas.Bool.{cases_eq, eqb-true, eq-eqb, false_from_ne_true, or_cases}
use Rattle.net_model.specs.Circuit.{Circuit, line_count, pins_of, Feeds}
use Rattle.net_model.specs.Scope.{leads_within, leads_to}
use Rattle.net_model.specs.Wiring.{Wiring}
use Rattle.net_model.proofs.Copies.{pins_inside}
use Rattle.net_model.proofs.Elements.{any_from, passing, true_false}
use Rattle.net_model.proofs.Relevance.{leads_back}
use Rattle.net_model.proofs.ScopeLaws.{leads_here}
use Rattle.event_queue.specs.Pending.{is_pending, IsEmpty, IsLowest}
use Rattle.event_queue.proofs.Marks.{lowest_left}
use Rattle.pair_scope.specs.Places.{ArePlacesOf, AreWokenBack, IsShownBy, from_end, leads_to_shown}
use Rattle.pair_scope.proofs.PlaceLemmas.{place_of, stands_before, end_twice}

-- ---- lines that wait

-- one more line waits
pub woken_more : (these more : ℕ → Type 0) (count : ℕ) (places : List ℕ) (old queue new : List Bool) (line place : ℕ) → place ≡ from_end count (get_or places line 0)
    → ((l : ℕ) → these l → more l) → ((l : ℕ) → more l → these l ⊎ (line ≡ l)) → more line
    → is_pending new place ≡ true → ((n : ℕ) → n ≢ place → is_pending new n ≡ is_pending queue n)
    → AreWokenBack these count places old queue → AreWokenBack more count places old new
woken_more these more count places old queue new line place at before cases own here others woken =
    let kept : (n : ℕ) → is_pending queue n ≡ true → is_pending new n ≡ true = λ n t. elim (cases_eq n place) [
      | inl same ↦ ap (is_pending new) same ∙ here
      | inr ne ↦ others n ne ∙ t
    ] in
    record {
      kept = λ n t. kept n (woken.kept n t);
      here = λ l m. elim (cases l m) [
        | inl earlier ↦ kept (from_end count (get_or places l 0)) (woken.here l earlier)
        | inr same ↦ ap (λ k. is_pending new (from_end count (get_or places k 0))) (sym same) ∙ ap (is_pending new) (sym at) ∙ here
      ];
      only = λ n t. elim (cases_eq n place) [
        | inl same ↦ inr (line, own, same ∙ at)
        | inr ne ↦ elim (woken.only n (sym (others n ne) ∙ t)) [
          | inl was ↦ inl was
          | inr (l, m, e) ↦ inr (l, before l m, e)
        ]
      ];
    }

module _ (c : Circuit) (positions : List ℕ) where
  -- ---- lines that lead to positions

  shown_leads : (line : ℕ) → IsShownBy c positions line → leads_to_shown c positions line ≡ true
  unfolding leads_to
  shown_leads line (at, m, e) = any_from (λ at. leads_within c (length c.gates) line (get_or c.positions at 0)) positions at m (leads_here c (length c.gates) line (get_or c.positions at 0) (eq-eqb line (get_or c.positions at 0) (sym e)))

  -- ---- while lines wait

  -- A line that a position shows, or that the gate of a found line reads, is found or waits. Only lines that lead to the positions
  -- are found or wait.
  pub record IsFoundSoFar (places lines : List ℕ) (from : ℕ) (back found : List Bool) : Type 0 where
    pub sound : (line : ℕ) → is_pending found line ≡ true → leads_to_shown c positions line ≡ true
    pub waiting : (place : ℕ) → is_pending back place ≡ true → leads_to_shown c positions (get_or lines (from_end (line_count c) place) 0) ≡ true
    pub shown : (line : ℕ) → line < line_count c → IsShownBy c positions line → (is_pending found line ≡ true) ⊎ (is_pending back (from_end (line_count c) (get_or places line 0)) ≡ true)
    pub onward : (read reader : ℕ) → is_pending found reader ≡ true → Feeds c read reader → (is_pending found read ≡ true) ⊎ (is_pending back (from_end (line_count c) (get_or places read 0)) ≡ true)
    pub low : (place : ℕ) → place < from → is_pending back place ≡ false
    pub from_within : from ≤ line_count c

  module _ (wiring : Wiring) (lines places : List ℕ) (is : ArePlacesOf c wiring lines places) where
    -- the place of a line, counted from the end, has that line
    back_again : (line : ℕ) → line < line_count c → get_or lines (from_end (line_count c) (from_end (line_count c) (get_or places line 0))) 0 ≡ line
    back_again line h =
        let place = place_of c wiring lines places is line h in
        ap (λ p. get_or lines p 0) (end_twice (line_count c) (get_or places line 0) place.0) ∙ place.1

    pub found_none : (none back found : List Bool) → ((line : ℕ) → IsShownBy c positions line → line < line_count c) → IsEmpty none → IsEmpty found → AreWokenBack (IsShownBy c positions) (line_count c) places none back → IsFoundSoFar places lines 0 back found
    found_none none back found inside empty unfound woken = record {
      sound = λ line t. true_false (is_pending found line) t (unfound line);
      waiting = λ place t. elim (woken.only place t) [
        | inl was ↦ true_false (is_pending none place) was (empty place)
        | inr (line, shown, e) ↦ ap (λ p. leads_to_shown c positions (get_or lines (from_end (line_count c) p) 0)) e ∙ ap (leads_to_shown c positions) (back_again line (inside line shown)) ∙ shown_leads line shown
      ];
      shown = λ line h shown. inr (woken.here line shown);
      onward = λ read reader t feeds. true_false (is_pending found reader) t (unfound reader);
      low = λ place h. absurd (omega (arith, h));
      from_within = omega arith;
    }

    module _ (from : ℕ) (back found : List Bool) (so_far : IsFoundSoFar places lines from back found) where
      pub found_more : (taken more new : List Bool) (place line : ℕ) → place < line_count c → line ≡ get_or lines (from_end (line_count c) place) 0 → IsLowest back taken place
          → AreWokenBack (λ pin. Feeds c pin line) (line_count c) places taken more → is_pending new line ≡ true → ((n : ℕ) → n ≢ line → is_pending new n ≡ is_pending found n) → IsFoundSoFar places lines (place + 1) more new
      found_more taken more new place line inside at lowest woken here others =
          let count = line_count c in
          let stays : (l : ℕ) → is_pending found l ≡ true → is_pending new l ≡ true = λ l t. elim (cases_eq l line) [
            | inl same ↦ ap (is_pending new) same ∙ here
            | inr ne ↦ others l ne ∙ t
          ] in
          let leads : leads_to_shown c positions line ≡ true = ap (leads_to_shown c positions) at ∙ so_far.waiting place lowest.was in
          let still : (l : ℕ) → l < count → is_pending back (from_end count (get_or places l 0)) ≡ true → (is_pending new l ≡ true) ⊎ (is_pending more (from_end count (get_or places l 0)) ≡ true) =
          λ l h t. elim (cases_eq (from_end count (get_or places l 0)) place) [
            | inl same ↦ inl (ap (is_pending new) (sym (back_again l h) ∙ ap (λ p. get_or lines (from_end count p) 0) same ∙ sym at) ∙ here)
            | inr ne ↦ inr (woken.kept (from_end count (get_or places l 0)) (lowest.others (from_end count (get_or places l 0)) ne ∙ t))
          ] in
          record {
            sound = λ l t. elim (cases_eq l line) [
              | inl same ↦ ap (leads_to_shown c positions) same ∙ leads
              | inr ne ↦ so_far.sound l (sym (others l ne) ∙ t)
            ];
            waiting = λ p t. elim (woken.only p t) [
              | inl was ↦ so_far.waiting p (lowest_left back taken place lowest p was).1
              | inr (pin, feeds, e) ↦
                  ap (λ p. leads_to_shown c positions (get_or lines (from_end count p) 0)) e
                  ∙ ap (leads_to_shown c positions) (back_again pin (pins_inside c is.wired.circuit line pin feeds))
                  ∙ shown_back pin line feeds leads
            ];
            shown = λ l h shown. elim (so_far.shown l h shown) [
              | inl was ↦ inl (stays l was)
              | inr waits ↦ still l h waits
            ];
            onward = λ read reader t feeds. elim (cases_eq reader line) [
              | inl own ↦ inr (woken.here read (subst (λ l. Feeds c read l) own feeds))
              | inr ne ↦ elim (so_far.onward read reader (sym (others reader ne) ∙ t) feeds) [
                | inl was ↦ inl (stays read was)
                | inr waits ↦ still read (pins_inside c is.wired.circuit reader read feeds) waits
              ]
            ];
            low = λ p h. false_from_ne_true (is_pending more p) (λ t. elim (woken.only p t) [
              | inl was ↦ let up = (lowest_left back taken place lowest p was).0 in omega (arith, up, h)
              | inr (pin, feeds, e) ↦
                  let own = place_of c wiring lines places is pin (pins_inside c is.wired.circuit line pin feeds) in
                  let up = stands_before c wiring is.wired lines is.are (get_or places pin 0) (from_end count place) own.0 (omega (arith, inside))
                  (subst (λ l. Feeds c (get_or lines (get_or places pin 0) 0) l) at (subst (λ l. Feeds c l line) (sym own.1) feeds)) in
                  omega (arith, up, h, e, own.0, inside)
            ]);
            from_within = omega (arith, inside);
          }
        where
          shown_back : (read reader : ℕ) → Feeds c read reader → leads_to_shown c positions reader ≡ true → leads_to_shown c positions read ≡ true
          shown_back read reader m t =
              let w = passing (λ at. leads_to c reader (get_or c.positions at 0)) positions t in
              any_from (λ at. leads_to c read (get_or c.positions at 0)) positions w.0 w.1 (leads_back c is.wired.circuit.acyclic read reader (get_or c.positions w.0 0) m w.2)

      module _ (none : IsEmpty back) (inside : (line : ℕ) → IsShownBy c positions line → line < line_count c) where
        found_next : (read reader : ℕ) → is_pending found reader ≡ true → Feeds c read reader → is_pending found read ≡ true
        found_next read reader t feeds = elim (so_far.onward read reader t feeds) [
          | inl was ↦ was
          | inr waits ↦ true_false (is_pending back (from_end (line_count c) (get_or places read 0))) waits (none (from_end (line_count c) (get_or places read 0)))
        ]

        found_back : (n line end : ℕ) → leads_within c n line end ≡ true → is_pending found end ≡ true → is_pending found line ≡ true
        found_back zero line end t e = ap (is_pending found) (eqb-true line end t) ∙ e
        found_back (suc n) line end t e = elim (or_cases (line == end) (list_any (leads_within c n line) (pins_of c end)) t) [
          | inl here ↦ ap (is_pending found) (eqb-true line end here) ∙ e
          | inr through ↦
              let pin = passing (leads_within c n line) (pins_of c end) through in
              found_back n line pin.0 pin.2 (found_next pin.0 end e pin.1)
        ]

        found_shown : (line : ℕ) → IsShownBy c positions line → is_pending found line ≡ true
        found_shown line shown = elim (so_far.shown line (inside line shown) shown) [
          | inl was ↦ was
          | inr waits ↦ true_false (is_pending back (from_end (line_count c) (get_or places line 0))) waits (none (from_end (line_count c) (get_or places line 0)))
        ]

        found_leading : (line : ℕ) → leads_to_shown c positions line ≡ true → is_pending found line ≡ true
        unfolding leads_to
        found_leading line t =
            let w = passing (λ at. leads_within c (length c.gates) line (get_or c.positions at 0)) positions t in
            found_back (length c.gates) line (get_or c.positions w.0 0) w.2 (found_shown (get_or c.positions w.0 0) (w.0, w.1, refl))

        -- if none waits, exactly the lines that lead to the positions are found
        pub found_all : (line : ℕ) → is_pending found line ≡ leads_to_shown c positions line
        found_all line = both_ways (is_pending found line) (leads_to_shown c positions line) (so_far.sound line) (found_leading line)
