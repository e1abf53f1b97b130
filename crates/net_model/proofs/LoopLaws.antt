-- Gates that fit together have ranks or a walk along a loop, and there is at most one such walk.
use Rattle.std.proofs.Common.{◌≡◌, ◌≢◌, ◌∙◌, ℕ, zero, suc, ◌+◌, ◌-◌, ◌<◌, ◌≤◌, ◌⊎◌, inl, inr, true, false, cond, List, [], ◌∷◌, ◌++◌, length, drop, get_or, refl, sym, subst, ap, arith, length-append}
use Rattle.std.specs.Prelude.{Bool, Option, Some, Contains, find, option_and_then, nat_lt, ◌==◌, ◌↔◌, IsTrue}
use Rattle.std.specs.List.{list_all, list_any}
use Rattle.std.proofs.lemmas.Bool.{cases_lt, cases_eq, cases_Bool, lt-ltb, ltb-true, or_cases, or_parts, eqb-true, eq-eqb, not-true, not_from_false}
use Rattle.std.proofs.lemmas.List.{ext_get_or, get_or_default, get_or_append_left, get_or_push}
use Rattle.std.proofs.lemmas.List.Elements.{Contains-push_cases}
use Rattle.std.proofs.lemmas.List.FromFn.{length-range_with_len}
use Rattle.std.proofs.lemmas.Option.{slice_get-get_or}
use Rattle.net_model.specs.Circuit.{Circuit, IsCircuit, IsAcyclic, FitsTogether, line_count, gate_lines, pins_of, Feeds, Reaches, directly, onward}
use Rattle.net_model.specs.LoopWalk.{is_removed_within, is_left, visited, IsLoopWalk}
use Rattle.net_model.specs.Scope.{leads_within, leads_to}
use Rattle.net_model.proofs.Copies.{later, pins_within}
use Rattle.net_model.proofs.Elements.{true_false, all_parts, none_in, first_or_later, passing}
use Rattle.net_model.proofs.Orders.{Contains-range, range-within, reader_is_gate}
use Rattle.net_model.proofs.QueueEnd.{no_longer, removed_later}
use Rattle.net_model.proofs.ScopeLaws.{leads-onward, leads_here, no_loop}
use Rattle.net_model.proofs.WalkLemmas.{walk_is}
use Rattle.net_model.proofs.WalkReach.{walk_reaches}

-- ---- lists

pub contains_or_not : (xs : List ℕ) (x : ℕ) → Contains xs x ⊎ (Contains xs x → ⊥)
contains_or_not [] x = inr (none_in x)
contains_or_not (y ∷ ys) x = elim (cases_eq y x) [
  | inl same ↦ inl (0, omega arith, same)
  | inr ne ↦ elim (contains_or_not ys x) [
    | inl has ↦ inl (later y ys x has)
    | inr none ↦ inr (λ has. elim (first_or_later y ys x has) [ inl same ↦ ne same | inr more ↦ none more ])
  ]
]

-- an element that doesn't pass
failing : (p : ℕ → Bool) (xs : List ℕ) → list_all p xs ≡ false → (x : ℕ) × Contains xs x × (p x ≡ false)
failing p [] f = true_false true refl f
failing p (y ∷ ys) f = elim (cases_Bool (p y)) [
  | inr off ↦ (y, (0, omega arith, refl), off)
  | inl on ↦
      let here : list_all p (y ∷ ys) ≡ list_all p ys = rw on refl in
      let r = failing p ys (sym here ∙ f) in
      (r.0, later y ys r.0 r.1, r.2)
]

-- the first element that passes
first_passing : (p : ℕ → Bool) (xs : List ℕ) (x : ℕ) → Contains xs x → p x ≡ true → (y : ℕ) × (find p xs ≡ Some y) × Contains xs y × (p y ≡ true)
first_passing p [] x has t = absurd (none_in x has)
first_passing p (z ∷ zs) x has t = elim (cases_Bool (p z)) [
  | inl on ↦ let here : find p (z ∷ zs) ≡ Some z = rw on refl in (z, here, (0, omega arith, refl), on)
  | inr off ↦ elim (first_or_later z zs x has) [
    | inl same ↦ true_false (p z) (ap p same ∙ t) off
    | inr more ↦
        let here : find p (z ∷ zs) ≡ find p zs = rw off refl in
        let r = first_passing p zs x more t in
        (r.0, here ∙ r.1, later z zs r.0 r.2, r.3)
  ]
]

-- ---- rounds of removing gates

module _ (c : Circuit) where
  gate_kept : (n line : ℕ) → is_removed_within c n line ≡ false → c.sources ≤ line
  gate_kept n line f = elim (cases_lt line c.sources) [
    | inl source ↦ true_false (is_removed_within c n line) (removed_later c 0 n line (omega arith) (lt-ltb line c.sources source)) f
    | inr gate ↦ gate
  ]

  -- a line that isn't removed in a round reads one that isn't in the round before
  kept_pin : (n line : ℕ) → is_removed_within c (suc n) line ≡ false → (pin : ℕ) × Contains (pins_of c line) pin × (is_removed_within c n pin ≡ false)
  kept_pin n line f = failing (is_removed_within c n) (pins_of c line) (or_parts (nat_lt line c.sources) (list_all (is_removed_within c n) (pins_of c line)) f).1

  -- what a removed gate reads is removed before
  removed_before : (n line reader : ℕ) → Feeds c line reader → is_removed_within c n reader ≡ true → (m : ℕ) × (m < n) × (is_removed_within c m line ≡ true)
  removed_before zero line reader m t = absurd (let gate = reader_is_gate c line reader m in omega (arith, gate, ltb-true reader c.sources t))
  removed_before (suc n) line reader m t = elim (or_cases (nat_lt reader c.sources) (list_all (is_removed_within c n) (pins_of c reader)) t) [
    | inl source ↦ absurd (let gate = reader_is_gate c line reader m in omega (arith, gate, ltb-true reader c.sources source))
    | inr pins ↦ (n, omega arith, all_parts (is_removed_within c n) (pins_of c reader) pins line m)
  ]

  -- the first of `n` rounds within which a line is removed
  abbrev round : ℕ → ℕ → ℕ
  round zero line = 0
  round (suc n) line = cond (is_removed_within c n line) (round n line) (suc n)

  round_le : (n line : ℕ) → round n line ≤ n
  round_le zero line = omega arith
  round_le (suc n) line = elim (cases_Bool (is_removed_within c n line)) [
    | inl on ↦ let e : round (suc n) line ≡ round n line = rw on refl in omega (arith, e, round_le n line)
    | inr off ↦ let e : round (suc n) line ≡ suc n = rw off refl in omega (arith, e)
  ]

  round_removed : (n line : ℕ) → is_removed_within c n line ≡ true → is_removed_within c (round n line) line ≡ true
  round_removed zero line t = t
  round_removed (suc n) line t = elim (cases_Bool (is_removed_within c n line)) [
    | inl on ↦ let e : round (suc n) line ≡ round n line = rw on refl in subst (λ k. is_removed_within c k line ≡ true) (sym e) (round_removed n line on)
    | inr off ↦ let e : round (suc n) line ≡ suc n = rw off refl in subst (λ k. is_removed_within c k line ≡ true) (sym e) t
  ]

  round_first : (n m line : ℕ) → is_removed_within c m line ≡ true → m ≤ n → round n line ≤ m
  round_first zero m line t h = omega arith
  round_first (suc n) m line t h = elim (cases_Bool (is_removed_within c n line)) [
    | inl on ↦
        let e : round (suc n) line ≡ round n line = rw on refl in
        elim (cases_lt m (suc n)) [
          | inl under ↦ omega (arith, e, round_first n m line t (omega arith))
          | inr over ↦ omega (arith, e, round_le n line)
        ]
    | inr off ↦ elim (cases_lt n m) [
      | inl under ↦ let e : round (suc n) line ≡ suc n = rw off refl in omega (arith, e)
      | inr over ↦ true_false (is_removed_within c n line) (removed_later c m n line over t) off
    ]
  ]

  -- if all gates are removed, the rounds are ranks
  ranks : ((line : ℕ) → Contains (gate_lines c) line → is_removed_within c (length c.gates) line ≡ true) → IsAcyclic c
  ranks all = record {
    rank = round (length c.gates);
    rises = λ line reader m.
        let gate = reader_is_gate c line reader m in
        let removed = round_removed (length c.gates) reader (all reader (Contains-range c.sources (length c.gates) reader gate.0 gate.1)) in
        let before = removed_before (round (length c.gates) reader) line reader m removed in
        omega (arith, before.1, round_first (length c.gates) before.0 line before.2 (omega (arith, before.1, round_le (length c.gates) reader)));
    bounded = round_le (length c.gates);
  }

-- ---- after as many rounds as there are gates no further one is removed

-- The line is removed in the round after this one.
record GoesAfter (c : Circuit) (n line : ℕ) : Type 0 where
  pub removed : is_removed_within c (suc n) line ≡ true
  pub kept : is_removed_within c n line ≡ false

-- Each gate of the list is removed a round later than the next.
record IsDescent (c : Circuit) (m : ℕ) (xs : List ℕ) : Type 0 where
  pub count : length xs ≡ suc m
  pub gates : (x : ℕ) → Contains xs x → Contains (gate_lines c) x
  pub goes : (k n : ℕ) → k + n ≡ m → GoesAfter c n (get_or xs k 0)

goes_first : (c : Circuit) (line : ℕ) (k n : ℕ) → k + n ≡ 0 → GoesAfter c 0 line → GoesAfter c n (get_or (line ∷ []) k 0)
goes_first c line zero n e goes = let last : 0 ≡ n = omega arith in subst (λ i. GoesAfter c i line) last goes
goes_first c line (suc k) n e goes = absurd (omega arith)

goes_more : (c : Circuit) (m line : ℕ) (rest : List ℕ) → IsDescent c m rest → GoesAfter c (suc m) line → (k n : ℕ) → k + n ≡ suc m → GoesAfter c n (get_or (line ∷ rest) k 0)
goes_more c m line rest is goes zero n e = let first : suc m ≡ n = omega arith in subst (λ i. GoesAfter c i line) first goes
goes_more c m line rest is goes (suc k) n e = is.goes k n (omega arith)

descent_distinct : (c : Circuit) (m : ℕ) (xs : List ℕ) → IsDescent c m xs → (j k : ℕ) → j < k → k < length xs → get_or xs j 0 ≢ get_or xs k 0
descent_distinct c m xs is j k lt h same =
    let earlier = is.goes j (m - j) (omega (arith, is.count)) in
    let later_one = is.goes k (m - k) (omega (arith, is.count)) in
    let goes : is_removed_within c (m - j) (get_or xs k 0) ≡ true = removed_later c (suc (m - k)) (m - j) (get_or xs k 0) (omega (arith, is.count)) later_one.removed in
    true_false (is_removed_within c (m - j) (get_or xs j 0)) (subst (λ x. is_removed_within c (m - j) x ≡ true) (sym same) goes) earlier.kept

module _ (c : Circuit) (fits : FitsTogether c) where
  kept_gate : (n line : ℕ) → line < line_count c → is_removed_within c n line ≡ false → Contains (gate_lines c) line
  kept_gate n line below f = Contains-range c.sources (length c.gates) line (gate_kept c n line f) below

  descent : (m line : ℕ) → line < line_count c → GoesAfter c m line → (xs : List ℕ) × IsDescent c m xs
  descent zero line below goes = (
    line ∷ [],
    record {
      count = refl;
      gates = λ x has. elim (first_or_later line [] x has) [
        | inl same ↦ subst (Contains (gate_lines c)) same (kept_gate 0 line below goes.kept)
        | inr more ↦ absurd (none_in x more)
      ];
      goes = λ k n e. goes_first c line k n e goes;
    },
  )
  descent (suc m) line below goes =
      let pin = kept_pin c m line goes.kept in
      let gate = gate_kept c (suc m) line goes.kept in
      let all : list_all (is_removed_within c (suc m)) (pins_of c line) ≡ true =
      elim (or_cases (nat_lt line c.sources) (list_all (is_removed_within c (suc m)) (pins_of c line)) goes.removed) [
        | inl source ↦ absurd (omega (arith, gate, ltb-true line c.sources source))
        | inr pins ↦ pins
      ] in
      let pin_goes : GoesAfter c m pin.0 = record { removed = all_parts (is_removed_within c (suc m)) (pins_of c line) all pin.0 pin.1; kept = pin.2 } in
      let rest = descent m pin.0 (pins_within c fits.pins line pin.0 pin.1) pin_goes in (
        line ∷ rest.0,
        record {
          count = ap suc rest.1.count;
          gates = λ x has. elim (first_or_later line rest.0 x has) [
            | inl same ↦ subst (Contains (gate_lines c)) same (kept_gate (suc m) line below goes.kept)
            | inr more ↦ rest.1.gates x more
          ];
          goes = λ k n e. goes_more c m line rest.0 rest.1 goes k n e;
        },
      )

  -- a line that is left is left for good
  left_stays : (line : ℕ) → line < line_count c → is_removed_within c (length c.gates) line ≡ false → is_removed_within c (suc (length c.gates)) line ≡ false
  left_stays line below f = elim (cases_Bool (is_removed_within c (suc (length c.gates)) line)) [
    | inr off ↦ off
    | inl on ↦
        let d = descent (length c.gates) line below record { removed = on; kept = f } in
        let short = no_longer d.0 (gate_lines c) (descent_distinct c (length c.gates) d.0 d.1) d.1.gates in
        absurd (omega (arith, short, d.1.count, length-range_with_len c.sources (length c.gates)))
  ]

  left_gate : (line : ℕ) → line < line_count c → is_left c line ≡ true → Contains (gate_lines c) line
  unfolding is_left
  left_gate line below t = kept_gate (length c.gates) line below (not-true (is_removed_within c (length c.gates) line) t)

  -- a line that is left reads one that is left
  left_pin : (line : ℕ) → line < line_count c → is_left c line ≡ true → (pin : ℕ) × Contains (pins_of c line) pin × (is_left c pin ≡ true)
  unfolding is_left
  left_pin line below t =
      let pin = kept_pin c (length c.gates) line (left_stays line below (not-true (is_removed_within c (length c.gates) line) t)) in
      (pin.0, pin.1, not_from_false (is_removed_within c (length c.gates) pin.0) pin.2)

kept_left : (c : Circuit) (line : ℕ) → is_removed_within c (length c.gates) line ≡ false → is_left c line ≡ true
unfolding is_left
kept_left c line f = not_from_false (is_removed_within c (length c.gates) line) f

-- ---- the visits, until a gate comes a second time

record IsExploring (c : Circuit) (lines : List ℕ) (next : ℕ) : Type 0 where
  pub gate : next < line_count c
  pub left : is_left c next ≡ true
  pub visits : (k : ℕ) → k < length lines → visited c k ≡ Some (get_or lines k 0)
  pub at : visited c (length lines) ≡ Some next
  pub gates : (x : ℕ) → Contains lines x → Contains (gate_lines c) x
  pub distinct : (j k : ℕ) → j < k → k < length lines → get_or lines j 0 ≢ get_or lines k 0

module _ (c : Circuit) (fits : FitsTogether c) where
  first_gate : (line : ℕ) → Contains (gate_lines c) line → is_left c line ≡ true → (next : ℕ) × IsExploring c [] next
  first_gate line has t =
      let first = first_passing (is_left c) (gate_lines c) line has t in (
        first.0,
        record {
          gate = (range-within c.sources (length c.gates) first.0 first.2).1;
          left = first.3;
          visits = λ k h. absurd (omega (arith, h));
          at = first.1;
          gates = λ x none. absurd (none_in x none);
          distinct = λ j k lt h. absurd (omega (arith, h));
        },
      )

  next_gate : (lines : List ℕ) (line : ℕ) → IsExploring c lines line → (Contains lines line → ⊥) → (next : ℕ) × IsExploring c (lines ++ line ∷ []) next
  next_gate lines line is new =
      let pin = left_pin c fits line is.gate is.left in
      let first = first_passing (is_left c) (pins_of c line) pin.0 pin.1 pin.2 in
      let longer : length (lines ++ line ∷ []) ≡ suc (length lines) = length-append lines (line ∷ []) ∙ omega arith in
      let before : (k : ℕ) → k < length lines → get_or (lines ++ line ∷ []) k 0 ≡ get_or lines k 0 = λ k h. get_or_append_left lines (line ∷ []) 0 k h in
      let last : (k : ℕ) → length lines ≡ k → get_or (lines ++ line ∷ []) k 0 ≡ line = λ k e. get_or_push lines line 0 k e in (
        first.0,
        record {
          gate = pins_within c fits.pins line first.0 first.2;
          left = first.3;
          visits = λ k h. elim (cases_lt k (length lines)) [
            | inl under ↦ is.visits k under ∙ ap Some (sym (before k under))
            | inr over ↦ let e : length lines ≡ k = omega (arith, longer) in ap (visited c) (sym e) ∙ is.at ∙ ap Some (sym (last k e))
          ];
          at = ap (visited c) longer ∙ ap (option_and_then (λ l. find (is_left c) (pins_of c l))) is.at ∙ first.1;
          gates = λ x has. elim (Contains-push_cases lines line x has) [
            | inl was ↦ is.gates x was
            | inr same ↦ subst (Contains (gate_lines c)) same (left_gate c fits line is.gate is.left)
          ];
          distinct = λ j k lt h same. elim (cases_lt k (length lines)) [
            | inl under ↦ is.distinct j k lt under (sym (before j (omega arith)) ∙ same ∙ before k under)
            | inr over ↦
                let e : length lines ≡ k = omega (arith, longer) in
                let inside : j < length lines = omega arith in
                new (j, inside, get_or_default lines j line 0 inside ∙ sym (before j inside) ∙ same ∙ last k e)
          ];
        },
      )

  walk_from : (fuel : ℕ) (lines : List ℕ) (line : ℕ) → IsExploring c lines line → length c.gates < length lines + fuel → (walk : List ℕ) × IsLoopWalk c walk
  walk_from zero lines line is enough = absurd (omega (arith, no_longer lines (gate_lines c) is.distinct is.gates, length-range_with_len c.sources (length c.gates)))
  walk_from (suc fuel) lines line is enough = elim (contains_or_not lines line) [
    | inl (back, within, there) ↦ (
      drop back lines,
      walk_is c lines back record {
        within = within;
        visits = is.visits;
        again = is.at ∙ ap Some (sym (get_or_default lines back 0 line within ∙ there));
        distinct = is.distinct;
      },
    )
    | inr new ↦
        let r = next_gate lines line is new in
        walk_from fuel (lines ++ line ∷ []) r.0 r.1 (omega (arith, length-append lines (line ∷ [])))
  ]

  pub ranks_or_walk : IsAcyclic c ⊎ ((walk : List ℕ) × IsLoopWalk c walk)
  ranks_or_walk = elim (cases_Bool (list_all (is_removed_within c (length c.gates)) (gate_lines c))) [
    | inl all ↦ inl (ranks c (all_parts (is_removed_within c (length c.gates)) (gate_lines c) all))
    | inr some ↦
        let kept = failing (is_removed_within c (length c.gates)) (gate_lines c) some in
        let first = first_gate kept.0 kept.1 (kept_left c kept.0 kept.2) in
        inr (walk_from (suc (length c.gates)) [] first.0 first.1 (omega arith))
  ]

  pub no_loop_circuit : ((line : ℕ) → Reaches c line line → ⊥) → IsCircuit c
  no_loop_circuit none =
      let acyclic : IsAcyclic c = elim ranks_or_walk [
        | inl ranks ↦ ranks
        | inr (walk, is) ↦ absurd (none (get_or walk 0 0) (walk_reaches c walk (get_or walk 0 0) is (0, is.nonempty, get_or_default walk 0 (get_or walk 0 0) 0 is.nonempty)))
      ] in
      record { pins = fits.pins; arities = fits.arities; positions = fits.positions; acyclic = acyclic; small = fits.small }

pub never_both : (c : Circuit) (walk : List ℕ) → IsAcyclic c → IsLoopWalk c walk → ⊥
never_both c walk a is = no_loop c a (get_or walk 0 0) (walk_reaches c walk (get_or walk 0 0) is (0, is.nonempty, get_or_default walk 0 (get_or walk 0 0) 0 is.nonempty))

-- ---- one walk

module _ (c : Circuit) (walk : List ℕ) (is : IsLoopWalk c walk) where
  at : (k : ℕ) → k < length walk → visited c (is.start + k) ≡ Some (get_or walk k 0)
  at k h = is.visits k h ∙ slice_get-get_or walk k 0 h

  pub closed : visited c (is.start + length walk) ≡ visited c is.start
  closed =
      let e : is.start + 0 ≡ is.start = omega arith in
      is.closes ∙ sym (is.visits 0 is.nonempty) ∙ ap (visited c) e

-- a walk doesn't close before another one does
not_sooner : (c : Circuit) (walk other : List ℕ) (is : IsLoopWalk c walk) (also : IsLoopWalk c other) → also.start + length other ≤ is.start + length walk
not_sooner c walk other is also = elim (cases_lt (is.start + length walk) (also.start + length other)) [
  | inl sooner ↦ absurd (also.first_return is.start (is.start + length walk) (omega (arith, is.nonempty)) sooner (sym (closed c walk is)))
  | inr after ↦ after
]

-- if two walks close at the same visit, the second doesn't start after the first
not_after : (c : Circuit) (walk other : List ℕ) (is : IsLoopWalk c walk) (also : IsLoopWalk c other) → is.start + length walk ≡ also.start + length other → also.start ≤ is.start
not_after c walk other is also end = elim (cases_lt is.start also.start) [
  | inl after ↦
      absurd (is.first_return is.start also.start after (omega (arith, end, also.nonempty))
      (sym (closed c walk is) ∙ ap (visited c) end ∙ closed c other also))
  | inr before ↦ before
]

pub one_walk : (c : Circuit) (walk other : List ℕ) → IsLoopWalk c walk → IsLoopWalk c other → walk ≡ other
one_walk c walk other is also =
    let end : is.start + length walk ≡ also.start + length other = omega (arith, not_sooner c walk other is also, not_sooner c other walk also is) in
    let start : is.start ≡ also.start = omega (arith, not_after c walk other is also end, not_after c other walk also is (sym end)) in
    ext_get_or 0 walk other (omega (arith, start, end))
    (λ k h.
    let inside : k < length other = omega (arith, start, end) in
    let same : ◌≡◌ {A = Option ℕ} (Some (get_or walk k 0)) (Some (get_or other k 0)) = sym (at c walk is k h) ∙ ap (λ n. visited c (n + k)) start ∙ at c other also k inside in
    (let e : get_or walk k 0 ≡ get_or other k 0 = cc in e))

-- ---- a line leads to itself and to those that it reaches

leads_reaches : (c : Circuit) (n from line : ℕ) → leads_within c n from line ≡ true → (from ≡ line) ⊎ Reaches c from line
leads_reaches c zero from line t = inl (eqb-true from line t)
leads_reaches c (suc n) from line t = elim (or_cases (from == line) (list_any (leads_within c n from) (pins_of c line)) t) [
  | inl here ↦ inl (eqb-true from line here)
  | inr pins ↦
      let pin = passing (leads_within c n from) (pins_of c line) pins in
      elim (leads_reaches c n from pin.0 pin.2) [
        | inl same ↦ let P : ℕ → Type 0 = λ k. Feeds c k line in inr (directly (subst P (sym same) pin.1))
        | inr reaches ↦ inr (onward reaches pin.1)
      ]
]

leads_itself : (c : Circuit) (from line : ℕ) → from ≡ line → leads_to c from line ≡ true
unfolding leads_to
leads_itself c from line e = leads_here c (length c.gates) from line (eq-eqb from line e)

reaches_leads : (c : Circuit) → IsAcyclic c → {from line : ℕ} → Reaches c from line → leads_to c from line ≡ true
reaches_leads c a (directly {line = line} {reader = reader} m) = leads-onward c a line line reader m (leads_itself c line line refl)
reaches_leads c a (onward {line = line} {between = between} {reader = reader} r m) = leads-onward c a line between reader m (reaches_leads c a r)

pub leads_where_reaches : (c : Circuit) (from line : ℕ) → IsCircuit c → IsTrue (leads_to c from line) ↔ ((from ≡ line) ⊎ Reaches c from line)
unfolding leads_to
leads_where_reaches c from line is = (
  λ t. leads_reaches c (length c.gates) from line t,
  λ where_it. elim where_it [ inl same ↦ leads_itself c from line same | inr reaches ↦ reaches_leads c is.acyclic reaches ],
)
