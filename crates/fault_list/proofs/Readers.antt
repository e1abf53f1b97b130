-- The destinations of lines, one reader more and all readers.
use Rattle.std.proofs.Common.{◌≡◌, ◌∙◌, ℕ, ◌+◌, ◌<◌, Bool, true, false, cond, eqb, List, [], ◌∷◌, ◌++◌, length, take, set, get_or, map, replicate, refl, sym, ap, arith, inl, inr, length-set, append_assoc, append-nil}
use Rattle.std.specs.Prelude.{flat_map, ◌==◌}
use Rattle.std.specs.Bool.{then_some}
use Rattle.std.specs.List.{range_with_len, cons_option}
use Rattle.std.proofs.lemmas.Bool.{cases_eq}
use Rattle.std.proofs.lemmas.Bool.Decides.{nat_tests}
use Rattle.std.proofs.lemmas.List.{get_or-replicate, length-replicate, map-append, take_more, length-take-le, get_or-set_same, get_or-set_other, flat_map_more}
use Rattle.std.proofs.lemmas.List.FromFn.{fill_by_all}
use Rattle.net_model.specs.declared.fault.Site.{Site}
use Rattle.net_model.specs.declared.fault.Site.TheVariants.{Pin, Position}
use Rattle.net_model.specs.Circuit.{Circuit, line_count, all_lines, pins_of}
use Rattle.net_model.specs.FaultList.{places_of, destinations}
use Rattle.net_model.proofs.Orders.{range_with_len_more}
use Rattle.fault_list.proofs.Places.{places_from}
use Rattle.fault_list.specs.Destinations.{AddsReaders}

-- ---- places

cons_option-append : (b : Bool) (n : ℕ) (xs ys : List ℕ) → cons_option (then_some b n) (xs ++ ys) ≡ cons_option (then_some b n) xs ++ ys
cons_option-append true n xs ys = refl
cons_option-append false n xs ys = refl

place_alone : (b : Bool) (n m : ℕ) → n ≡ m → cons_option (then_some b n) [] ≡ cond b (m ∷ []) []
place_alone true n m e = ap (λ k. k ∷ []) e
place_alone false n m e = refl

places_from-push : (x y n m : ℕ) (xs : List ℕ) → n + length xs ≡ m → places_from x n (xs ++ y ∷ []) ≡ places_from x n xs ++ cond (eqb y x) (m ∷ []) []
places_from-push x y n m [] e = place_alone (eqb y x) n m (omega arith)
places_from-push x y n m (z ∷ xs) e =
    ap (λ rest. cons_option (then_some (z == x) n) rest) (places_from-push x y (n + 1) m xs (omega arith))
    ∙ cons_option-append (z == x) n (places_from x (n + 1) xs) (cond (eqb y x) (m ∷ []) [])

places_of-push : (x y m : ℕ) (xs : List ℕ) → length xs ≡ m → places_of x (xs ++ y ∷ []) ≡ places_of x xs ++ cond (eqb y x) (m ∷ []) []
unfolding places_of
places_of-push x y m xs e = places_from-push x y 0 m xs (omega arith)

-- ---- one reader more

module _ (site : ℕ → Site) where
  pub adds_none : (lines : List ℕ) (old : List (List Site)) → AddsReaders site (take 0 lines) old old
  unfolding places_of
  adds_none lines old = record { whole = refl; each = λ line h. sym (append-nil (get_or old line [])) }

  -- the sites of the places so far, and of one place more
  sites_more : (line k : ℕ) (lines : List ℕ) → k < length lines
      → map site (places_of line (take (k + 1) lines)) ≡ map site (places_of line (take k lines)) ++ cond (eqb (get_or lines k 0) line) (site k ∷ []) []
  sites_more line k lines h =
      ap (λ xs. map site (places_of line xs)) (take_more lines k 0 h)
      ∙ (ap (map site) (places_of-push line (get_or lines k 0) k (take k lines) (length-take-le k lines (omega arith)))
      ∙ (map-append site (places_of line (take k lines)) (cond (eqb (get_or lines k 0) line) (k ∷ []) [])
      ∙ ap (λ xs. map site (places_of line (take k lines)) ++ xs) (at_place (eqb (get_or lines k 0) line))))
    where
      at_place : (b : Bool) → map site (cond b (k ∷ []) []) ≡ cond b (site k ∷ []) []
      at_place true = refl
      at_place false = refl

  pub adds_more : (lines : List ℕ) (k : ℕ) (old now : List (List Site)) → k < length lines → get_or lines k 0 < length old → AddsReaders site (take k lines) old now
      → AddsReaders site (take (k + 1) lines) old (set now (get_or lines k 0) (get_or now (get_or lines k 0) [] ++ site k ∷ []))
  adds_more lines k old now h inside so_far = record {
    whole = length-set now (get_or lines k 0) (get_or now (get_or lines k 0) [] ++ site k ∷ []) ∙ so_far.whole;
    each = λ line within.
        elim (cases_eq (get_or lines k 0) line) [
          | inl same ↦
              let test : eqb (get_or lines k 0) line ≡ true = grind (arith, nat_tests) in
              let more : map site (places_of line (take (k + 1) lines)) ≡ map site (places_of line (take k lines)) ++ site k ∷ [] = sites_more line k lines h ∙ ap (λ b. map site (places_of line (take k lines)) ++ cond b (site k ∷ []) []) test in
              ap (λ n. get_or (set now n (get_or now n [] ++ site k ∷ [])) line []) same
              ∙ (get_or-set_same now line (get_or now line [] ++ site k ∷ []) [] (omega (arith, so_far.whole))
              ∙ (ap (λ xs. xs ++ site k ∷ []) (so_far.each line within)
              ∙ (append_assoc (get_or old line []) (map site (places_of line (take k lines))) (site k ∷ [])
              ∙ ap (λ xs. get_or old line [] ++ xs) (sym more))))
          | inr other ↦
              let test : eqb (get_or lines k 0) line ≡ false = grind (arith, nat_tests) in
              let more : map site (places_of line (take (k + 1) lines)) ≡ map site (places_of line (take k lines)) = sites_more line k lines h ∙ (ap (λ b. map site (places_of line (take k lines)) ++ cond b (site k ∷ []) []) test ∙ append-nil (map site (places_of line (take k lines)))) in
              get_or-set_other now (get_or lines k 0) line (get_or now (get_or lines k 0) [] ++ site k ∷ []) [] (λ e. other (sym e))
              ∙ (so_far.each line within ∙ ap (λ xs. get_or old line [] ++ xs) (sym more))
        ];
  }

-- ---- the readers of a circuit

module _ (c : Circuit) where
  -- the pins that read a line, of the gates starting at a line
  pub pin_readers : ℕ → ℕ → ℕ → List Site
  pin_readers first count line = flat_map (λ gate. map (Pin gate) (places_of line (pins_of c gate))) (range_with_len first count)

  -- each line has the pins of the first `count` gates that read it
  pub record HasGates (count : ℕ) (found : List (List Site)) : Type 0 where
    pub whole : length found ≡ line_count c
    pub each : (line : ℕ) → line < line_count c → get_or found line [] ≡ pin_readers c.sources count line

  pub no_gates : HasGates 0 (replicate (line_count c) [])
  unfolding pin_readers
  no_gates = record { whole = length-replicate (line_count c) []; each = λ line h. get_or-replicate (line_count c) line [] [] h }

  pub more_gates : (count gate : ℕ) (old new : List (List Site)) → c.sources + count ≡ gate → HasGates count old → AddsReaders (Pin gate) (pins_of c gate) old new → HasGates (count + 1) new
  unfolding pin_readers
  more_gates count gate old new e so_far adds = record {
    whole = adds.whole ∙ so_far.whole;
    each = λ line h.
        adds.each line (omega (arith, so_far.whole))
        ∙ (ap (λ xs. xs ++ map (Pin gate) (places_of line (pins_of c gate))) (so_far.each line h)
        ∙ (flat_map_more (λ g. map (Pin g) (places_of line (pins_of c g))) [] (range_with_len c.sources count) gate
        ∙ ap (flat_map (λ g. map (Pin g) (places_of line (pins_of c g)))) (sym (range_with_len_more c.sources (count + 1) count gate refl e))));
  }

  pub all_readers : (old new : List (List Site)) → HasGates (length c.gates) old → AddsReaders Position c.positions old new → new ≡ map (destinations c) (all_lines c)
  unfolding pin_readers destinations
  all_readers old new so_far adds =
      fill_by_all (destinations c) new (line_count c) [] (adds.whole ∙ so_far.whole)
      (λ line h. adds.each line (omega (arith, so_far.whole)) ∙ ap (λ xs. xs ++ map Position (places_of line c.positions)) (so_far.each line h))
