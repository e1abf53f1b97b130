-- Nodes that get their numbers place by place.
use Rattle.std.proofs.Common.{◌≡◌, ◌≢◌, ◌∙◌, ℕ, ◌+◌, ◌*◌, ◌<◌, ◌≤◌, ◌^◌, Bool, true, false, cond, eqb, ltb, List, [], ◌∷◌, ◌++◌, length, get_or, set, map, replicate, refl, sym, ap, subst, arith, inl, inr, Contains}
use Rattle.std.specs.List.{range_with_len}
use Rattle.std.proofs.lemmas.Bool.{cases_Bool, cases_lt, cases_eq, cond-true, cond-false, cond_both, eqb-true, eqb-false, lt-ltb, le-ltb, false_from_ne_true}
use Rattle.std.proofs.lemmas.List.{length-set, length_push, get_or_append_left, get_or_push, get_or-set_same, get_or-set_other, get_or_default}
use Rattle.std.proofs.lemmas.Nat.{mul-le}
use Rattle.std.proofs.lemmas.List.FromFn.{map-range_with_len_more, length-map-range_with_len, get_or-map-range_with_len}
use Rattle.net_model.proofs.Elements.{get_or-replicate_anywhere}
use Rattle.answer_numbers.specs.declared.node_numbers.TheConstants.{UNNUMBERED}
use Rattle.answer_numbers.specs.declared.node_numbers.NodeNumbers.{NodeNumbers}
use Rattle.answer_numbers.specs.declared.trees.LaneTrees.{LaneTrees}
use Rattle.answer_numbers.specs.Distinct.{distinct_answers}
use Rattle.answer_numbers.specs.NodeNumbers.{stand_of, IsPlaceOf, HaveOwnLanes, AreToldBy, ArePlacesOf, AreNodesNumbered, AreNumberedTo, done_below, HasNodeNumber}
use Rattle.answer_numbers.proofs.DistinctLemmas.{is_among, is_among_from, among_is, distinct_push}

-- ---- the nodes of one lane

module _ (node_of : ℕ → ℕ) (done : ℕ) (numbers : List ℕ) (count : ℕ) (are : AreNodesNumbered node_of done numbers count) where
  -- other numbers that are the same at these nodes
  pub numbers_kept : (more : List ℕ) → ((place : ℕ) → place < done → get_or more (node_of place) 0 ≡ get_or numbers (node_of place) 0) → AreNodesNumbered node_of done more count
  numbers_kept more same = record {
    few = are.few;
    below = λ place h. omega (arith, same place h, are.below place h);
    places = λ answer_of told.
        let old = are.places answer_of told in
        record {
          count_is = old.count_is;
          own = λ place h. ap (λ k. get_or (distinct_answers (map answer_of (range_with_len 0 done))) k []) (same place h) ∙ old.own place h;
        };
  }

  module _ (answer_of : ℕ → List Bool) (told : AreToldBy node_of (done + 1) answer_of) where
    abbrev so_far : List (List Bool)
    so_far = map answer_of (range_with_len 0 done)

    before : AreToldBy node_of done answer_of
    before p q hp hq = told p q (omega (arith, hp)) (omega (arith, hq))

    answers_more : map answer_of (range_with_len 0 (done + 1)) ≡ so_far ++ answer_of done ∷ []
    answers_more = map-range_with_len_more answer_of 0 done done (omega arith)

    in_so_far : (place : ℕ) → place < done → Contains so_far (answer_of place)
    in_so_far place h = (place, omega (arith, h, length-map-range_with_len answer_of 0 done), get_or-map-range_with_len answer_of 0 done place place (answer_of place) h (omega arith))

    from_so_far : Contains so_far (answer_of done) → (place : ℕ) × (place < done) × (answer_of place ≡ answer_of done)
    from_so_far (k, l, e) =
        let h : k < done = omega (arith, l, length-map-range_with_len answer_of 0 done) in
        (k, h, sym (get_or-map-range_with_len answer_of 0 done k k (answer_of done) h (omega arith)) ∙ e)

    distinct_more : (b : Bool) → is_among (answer_of done) so_far ≡ b → distinct_answers (map answer_of (range_with_len 0 (done + 1))) ≡ cond b (distinct_answers so_far) (distinct_answers so_far ++ answer_of done ∷ [])
    distinct_more b e = ap distinct_answers answers_more ∙ (distinct_push so_far (answer_of done) ∙ ap (λ t. cond t (distinct_answers so_far) (distinct_answers so_far ++ answer_of done ∷ [])) e)

    -- the next place is at the node of an earlier one
    places_again : (p : ℕ) → p < done → node_of p ≡ node_of done → ArePlacesOf node_of (done + 1) numbers count answer_of
    places_again p h e =
        let old = are.places answer_of before in
        let same : answer_of p ≡ answer_of done = (told p done (omega (arith, h)) (omega arith)).1 e in
        let among : is_among (answer_of done) so_far ≡ true = is_among_from (answer_of done) so_far (subst (Contains so_far) same (in_so_far p h)) in
        let is = distinct_more true among in
        record {
          count_is = old.count_is ∙ ap length (sym is);
          own = λ place l. ap (λ (xs : List (List Bool)). get_or xs (get_or numbers (node_of place) 0) []) is ∙ elim (cases_lt place done) [
            | inl low ↦ old.own place low
            | inr high ↦
                let last : place ≡ done = omega (arith, l, high) in
                ap (λ k. get_or (distinct_answers so_far) (get_or numbers k 0) []) (ap node_of last ∙ sym e) ∙ (old.own p h ∙ (same ∙ ap answer_of (sym last)))
          ];
        }

    -- the next place is at a node of its own
    places_next : ((p : ℕ) → p < done → node_of p ≡ node_of done → ⊥) → node_of done < length numbers → ArePlacesOf node_of (done + 1) (set numbers (node_of done) count) (count + 1) answer_of
    places_next apart inside =
        let old = are.places answer_of before in
        let among : is_among (answer_of done) so_far ≡ false = false_from_ne_true (is_among (answer_of done) so_far) (λ t.
        let w = from_so_far (among_is (answer_of done) so_far t) in
        apart w.0 w.1 ((told w.0 done (omega (arith, w.1)) (omega arith)).0 w.2)) in
        let is = distinct_more false among in
        record {
          count_is = omega (arith, old.count_is, ap length is, length_push (distinct_answers so_far) (answer_of done));
          own = λ place l. ap (λ (xs : List (List Bool)). get_or xs (get_or (set numbers (node_of done) count) (node_of place) 0) []) is ∙ elim (cases_lt place done) [
            | inl low ↦
                let other : node_of place ≢ node_of done = apart place low in
                ap (λ k. get_or (distinct_answers so_far ++ answer_of done ∷ []) k []) (get_or-set_other numbers (node_of done) (node_of place) count 0 other)
                ∙ (get_or_append_left (distinct_answers so_far) (answer_of done ∷ []) [] (get_or numbers (node_of place) 0) (omega (arith, are.below place low, old.count_is)) ∙ old.own place low)
            | inr high ↦
                let last : place ≡ done = omega (arith, l, high) in
                ap (λ p. get_or (distinct_answers so_far ++ answer_of done ∷ []) (get_or (set numbers (node_of done) count) (node_of p) 0) []) last
                ∙ (ap (λ k. get_or (distinct_answers so_far ++ answer_of done ∷ []) k []) (get_or-set_same numbers (node_of done) count 0 inside)
                ∙ (get_or_push (distinct_answers so_far) (answer_of done) [] count (sym old.count_is) ∙ ap answer_of (sym last)))
          ];
        }

  -- one place more
  pub numbered_again : (p : ℕ) → p < done → node_of p ≡ node_of done → AreNodesNumbered node_of (done + 1) numbers count
  numbered_again p h e = record {
    few = omega (arith, are.few);
    below = λ place l. elim (cases_lt place done) [
      | inl low ↦ are.below place low
      | inr high ↦ let last : place ≡ done = omega (arith, l, high) in omega (arith, are.below p h, ap (λ k. get_or numbers k 0) (ap node_of last ∙ sym e))
    ];
    places = λ answer_of told. places_again answer_of told p h e;
  }

  pub numbered_next : ((p : ℕ) → p < done → node_of p ≡ node_of done → ⊥) → node_of done < length numbers → AreNodesNumbered node_of (done + 1) (set numbers (node_of done) count) (count + 1)
  numbered_next apart inside = record {
    few = omega (arith, are.few);
    below = λ place l. elim (cases_lt place done) [
      | inl low ↦
          let other : node_of place ≢ node_of done = apart place low in
          omega (arith, get_or-set_other numbers (node_of done) (node_of place) count 0 other, are.below place low)
      | inr high ↦
          let last : place ≡ done = omega (arith, l, high) in
          omega (arith, ap (λ p. get_or (set numbers (node_of done) count) (node_of p) 0) last, get_or-set_same numbers (node_of done) count 0 inside)
    ];
    places = λ answer_of told. places_next answer_of told apart inside;
  }

-- ---- the nodes of all lanes

pub place_before : (t : LaneTrees) (p q : ℕ) → p ≤ q → IsPlaceOf t q → IsPlaceOf t p
place_before t p q h is = let rows : p * t.lanes ≤ q * t.lanes = mul-le p t.lanes q t.lanes h (omega arith) in omega (arith, rows, is)

module _ (t : LaneTrees) (own : HaveOwnLanes t) where
  abbrev at_lane : ℕ → ℕ → ℕ
  at_lane lane place = stand_of t place lane

  pub numbered_none : (n : NodeNumbers) → n.numbers.items ≡ replicate (length t.nodes.items) UNNUMBERED → n.counts.items ≡ replicate t.lanes 0 → length n.numbers.items ≡ length t.nodes.items → length n.counts.items ≡ t.lanes → AreNumberedTo t (λ lane. 0) n
  numbered_none n none zeros nodes lanes = record {
    nodes = nodes;
    lanes = lanes;
    used = λ node h ne. absurd (ne (get_or_default n.numbers.items node 0 UNNUMBERED (omega (arith, h, nodes)) ∙ (ap (λ (xs : List ℕ). get_or xs node UNNUMBERED) none ∙ get_or-replicate_anywhere (length t.nodes.items) node UNNUMBERED)));
    each = λ lane h.
        let zero_is : get_or n.counts.items lane 0 ≡ 0 = ap (λ (xs : List ℕ). get_or xs lane 0) zeros ∙ get_or-replicate_anywhere t.lanes lane 0 in
        subst (AreNodesNumbered (at_lane lane) 0 n.numbers.items) (sym zero_is) (record {
          few = omega arith;
          below = λ place l. absurd (omega (arith, l));
          places = λ answer_of told. record { count_is = refl; own = λ place l. absurd (omega (arith, l)) };
        });
  }

  module _ (place lane : ℕ) (known : IsPlaceOf t place) (fits : place + 1 < 2 ^ 32) (inside : lane < t.lanes) (old : NodeNumbers) (are : AreNumberedTo t (done_below place lane) old) where
    abbrev node : ℕ
    node = stand_of t place lane

    abbrev numbers : List ℕ
    numbers = old.numbers.items

    abbrev count_in : ℕ → ℕ
    count_in l = get_or old.counts.items l 0

    here_done : done_below place lane lane ≡ place
    here_done = cond-false (ltb lane lane) (place + 1) place (le-ltb lane lane (omega arith))

    here_next : done_below place (lane + 1) lane ≡ place + 1
    here_next = cond-true (ltb lane (lane + 1)) (place + 1) place (lt-ltb lane (lane + 1) (omega arith))

    others_done : (l : ℕ) → l ≢ lane → done_below place (lane + 1) l ≡ done_below place lane l
    others_done l ne = ap (λ b. cond b (place + 1) place) (elim (cases_lt l lane) [
      | inl low ↦ lt-ltb l (lane + 1) (omega (arith, low)) ∙ sym (lt-ltb l lane low)
      | inr high ↦ le-ltb l (lane + 1) (omega (arith, high, ne)) ∙ sym (le-ltb l lane high)
    ])

    at_most : (l : ℕ) → done_below place lane l ≤ place + 1
    at_most l = cond_both (ltb l lane) (place + 1) place (λ k. k ≤ place + 1) (λ e. omega arith) (λ e. omega arith)

    no_fewer : (l : ℕ) → done_below place lane l ≤ done_below place (lane + 1) l
    no_fewer l = elim (cases_eq l lane) [
      | inl e ↦ omega (arith, ap (done_below place lane) e, ap (done_below place (lane + 1)) e, here_done, here_next)
      | inr ne ↦ omega (arith, others_done l ne)
    ]

    own_lane : AreNodesNumbered (at_lane lane) place numbers (count_in lane)
    own_lane = subst (λ d. AreNodesNumbered (at_lane lane) d numbers (count_in lane)) here_done (are.each lane inside)

    node_in : node < length numbers
    node_in = omega (arith, own.within place lane known inside, are.nodes)

    -- a node that has a number in a lane isn't without one
    has_number : (l p : ℕ) → l < t.lanes → p < done_below place lane l → get_or numbers (stand_of t p l) 0 ≢ UNNUMBERED
    has_number l p h lp e = absurd (omega (arith, e, (are.each l h).below p lp, (are.each l h).few, at_most l, fits))

    -- in each lane, with these numbers and counts
    abbrev LaneIs : List ℕ → List ℕ → ℕ → Type 0
    LaneIs more counts l = AreNodesNumbered (at_lane l) (done_below place (lane + 1) l) more (get_or counts l 0)

    lane_again : get_or numbers node 0 ≢ UNNUMBERED → AreNodesNumbered (at_lane lane) (place + 1) numbers (count_in lane)
    lane_again some =
        let w = are.used node (own.within place lane known inside) some in
        let before : IsPlaceOf t w.2.0 = place_before t w.2.0 place (omega (arith, w.2.1, at_most w.0)) known in
        let same : w.0 ≡ lane = own.apart w.2.0 place w.0 lane before known w.1 inside w.2.2 in
        let low : w.2.0 < place = omega (arith, w.2.1, ap (done_below place lane) same, here_done) in
        numbered_again (at_lane lane) place numbers (count_in lane) own_lane w.2.0 low (ap (stand_of t w.2.0) (sym same) ∙ w.2.2)

    lanes_again : get_or numbers node 0 ≢ UNNUMBERED → (l : ℕ) → l < t.lanes → LaneIs numbers old.counts.items l
    lanes_again some l h = elim (cases_eq l lane) [
      | inl e ↦ subst (LaneIs numbers old.counts.items) (sym e) (subst (λ d. AreNodesNumbered (at_lane lane) d numbers (count_in lane)) (sym here_next) (lane_again some))
      | inr ne ↦ subst (λ d. AreNodesNumbered (at_lane l) d numbers (count_in l)) (sym (others_done l ne)) (are.each l h)
    ]

    abbrev more : List ℕ
    more = set numbers node (count_in lane)

    abbrev counts : List ℕ
    counts = set old.counts.items lane (count_in lane + 1)

    lane_next : get_or numbers node 0 ≡ UNNUMBERED → AreNodesNumbered (at_lane lane) (place + 1) more (count_in lane + 1)
    lane_next none =
        let apart : (p : ℕ) → p < place → stand_of t p lane ≡ node → ⊥ = λ p h e. has_number lane p inside (omega (arith, h, here_done)) (ap (λ k. get_or numbers k 0) e ∙ none) in
        numbered_next (at_lane lane) place numbers (count_in lane) own_lane apart node_in

    lanes_next : get_or numbers node 0 ≡ UNNUMBERED → (l : ℕ) → l < t.lanes → LaneIs more counts l
    lanes_next none l h = elim (cases_eq l lane) [
      | inl e ↦
          let count_is : get_or counts lane 0 ≡ count_in lane + 1 = get_or-set_same old.counts.items lane (count_in lane + 1) 0 (omega (arith, inside, are.lanes)) in
          subst (LaneIs more counts) (sym e) (subst (AreNodesNumbered (at_lane lane) (done_below place (lane + 1) lane) more) (sym count_is)
          (subst (λ d. AreNodesNumbered (at_lane lane) d more (count_in lane + 1)) (sym here_next) (lane_next none)))
      | inr ne ↦
          let kept : (p : ℕ) → p < done_below place lane l → get_or more (stand_of t p l) 0 ≡ get_or numbers (stand_of t p l) 0 = λ p lp.
          let other : stand_of t p l ≢ node = λ e. has_number l p h lp (ap (λ k. get_or numbers k 0) e ∙ none) in
          get_or-set_other numbers node (stand_of t p l) (count_in lane) 0 other in
          subst (AreNodesNumbered (at_lane l) (done_below place (lane + 1) l) more) (sym (get_or-set_other old.counts.items lane l (count_in lane + 1) 0 ne))
          (subst (λ d. AreNodesNumbered (at_lane l) d more (count_in l)) (sym (others_done l ne)) (numbers_kept (at_lane l) (done_below place lane l) numbers (count_in l) (are.each l h) more kept))
    ]

    abbrev IsUsed : (ℕ → ℕ) → ℕ → Type 0
    IsUsed done m = (l : ℕ) × (l < t.lanes) × ((p : ℕ) × (p < done l) × (stand_of t p l ≡ m))

    used_again : (m : ℕ) → m < length t.nodes.items → get_or numbers m 0 ≢ UNNUMBERED → IsUsed (done_below place (lane + 1)) m
    used_again m h ne = let w = are.used m h ne in (w.0, w.1, (w.2.0, omega (arith, w.2.1, no_fewer w.0), w.2.2))

    used_next : (m : ℕ) → m < length t.nodes.items → get_or more m 0 ≢ UNNUMBERED → IsUsed (done_below place (lane + 1)) m
    used_next m h ne = elim (cases_eq m node) [
      | inl e ↦ (lane, inside, (place, omega (arith, here_next), sym e))
      | inr other ↦ used_again m h (λ none. ne (get_or-set_other numbers node m (count_in lane) 0 other ∙ none))
    ]

    packed : (n : NodeNumbers) (xs ys : List ℕ) → n.numbers.items ≡ xs → n.counts.items ≡ ys → length xs ≡ length t.nodes.items → length ys ≡ t.lanes
        → ((m : ℕ) → m < length t.nodes.items → get_or xs m 0 ≢ UNNUMBERED → IsUsed (done_below place (lane + 1)) m) → ((l : ℕ) → l < t.lanes → LaneIs xs ys l) → AreNumberedTo t (done_below place (lane + 1)) n
    packed n xs ys ex ey nodes lanes used each = record {
      nodes = ap length ex ∙ nodes;
      lanes = ap length ey ∙ lanes;
      used = λ m h ne. used m h (λ e. ne (ap (λ (zs : List ℕ). get_or zs m 0) ex ∙ e));
      each = λ l h. subst (λ (zs : List ℕ). AreNodesNumbered (at_lane l) (done_below place (lane + 1) l) zs (get_or n.counts.items l 0)) (sym ex)
          (subst (λ (zs : List ℕ). AreNodesNumbered (at_lane l) (done_below place (lane + 1) l) xs (get_or zs l 0)) (sym ey) (each l h));
    }

    -- one place more in one lane
    pub numbered_more : (new : NodeNumbers) → HasNodeNumber node lane old new → AreNumberedTo t (done_below place (lane + 1)) new
    numbered_more new has = elim (cases_Bool (eqb (get_or numbers node 0) UNNUMBERED)) [
      | inl none ↦
          packed new more counts (has.numbers ∙ cond-true (eqb (get_or numbers node 0) UNNUMBERED) more numbers none) (has.counts ∙ cond-true (eqb (get_or numbers node 0) UNNUMBERED) counts old.counts.items none)
          (length-set numbers node (count_in lane) ∙ are.nodes) (length-set old.counts.items lane (count_in lane + 1) ∙ are.lanes) used_next (lanes_next (eqb-true (get_or numbers node 0) UNNUMBERED none))
      | inr some ↦
          packed new numbers old.counts.items (has.numbers ∙ cond-false (eqb (get_or numbers node 0) UNNUMBERED) more numbers some) (has.counts ∙ cond-false (eqb (get_or numbers node 0) UNNUMBERED) counts old.counts.items some)
          are.nodes are.lanes used_again (lanes_again (eqb-false (get_or numbers node 0) UNNUMBERED some))
    ]

    -- the count stays small
    pub count_small : count_in lane ≤ place
    count_small = own_lane.few

  -- the lanes before and after a place
  pub first_lane : (place : ℕ) (n : NodeNumbers) → AreNumberedTo t (λ lane. place) n → AreNumberedTo t (done_below place 0) n
  first_lane place n are = record {
    nodes = are.nodes;
    lanes = are.lanes;
    used = λ m h ne. let w = are.used m h ne in (w.0, w.1, (w.2.0, omega (arith, w.2.1, begun w.0), w.2.2));
    each = λ l h. subst (λ d. AreNodesNumbered (at_lane l) d n.numbers.items (get_or n.counts.items l 0)) (sym (begun l)) (are.each l h);
  }
    where
      begun : (l : ℕ) → done_below place 0 l ≡ place
      begun l = cond-false (ltb l 0) (place + 1) place (le-ltb l 0 (omega arith))

  pub all_lanes : (place lane : ℕ) (n : NodeNumbers) → t.lanes ≤ lane → AreNumberedTo t (done_below place lane) n → AreNumberedTo t (λ l. place + 1) n
  all_lanes place lane n past are = record {
    nodes = are.nodes;
    lanes = are.lanes;
    used = λ m h ne. let w = are.used m h ne in (w.0, w.1, (w.2.0, omega (arith, w.2.1, ended w.0 (omega (arith, w.1, past))), w.2.2));
    each = λ l h. subst (λ d. AreNodesNumbered (at_lane l) d n.numbers.items (get_or n.counts.items l 0)) (ended l (omega (arith, h, past))) (are.each l h);
  }
    where
      ended : (l : ℕ) → l < lane → done_below place lane l ≡ place + 1
      ended l h = cond-true (ltb l lane) (place + 1) place (lt-ltb l lane h)
