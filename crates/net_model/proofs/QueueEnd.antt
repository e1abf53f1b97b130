-- The queue of ready gates at its end: the order, or the gates that are left.
use Rattle.std.proofs.Common.{◌≡◌, ◌≢◌, ◌∙◌, ℕ, zero, suc, ◌+◌, ◌-◌, ◌<◌, ◌≤◌, ◌⊎◌, inl, inr, true, false, not, List, [], ◌∷◌, ◌++◌, length, get_or, refl, sym, subst, ap, arith, length-append, length-take, get_or-take, append_assoc}
use Rattle.std.specs.Prelude.{Contains, IsPermutation, nat_lt}
use Rattle.std.specs.List.{list_all}
use Rattle.std.proofs.lemmas.Bool.{cases_lt, cases_Bool, lt-ltb, le-ltb, ltb-true, eqb-true, eq-eqb, or_cases, false_from_ne_true, or_left, or_right}
use Rattle.std.proofs.lemmas.List.{get_or_default, append-nil, nil_from_length}
use Rattle.std.proofs.lemmas.List.Elements.{Contains-append_cases}
use Rattle.std.proofs.lemmas.List.FromFn.{length-range_with_len}
use Rattle.std.proofs.lemmas.List.Sorted.{IsPermutation-refl, IsPermutation-trans, IsPermutation-sym, IsPermutation-middle, Contains-permutation, length_permutation}
use Rattle.std.proofs.lemmas.Option.{slice_get_within, get_or_from_slice_get}
use Rattle.net_model.specs.Circuit.{Circuit, FitsTogether, line_count, gate_lines, pins_of, Feeds}
use Rattle.net_model.specs.Order.{IsOrder}
use Rattle.net_model.specs.LoopWalk.{is_removed_within, is_left}
use Rattle.net_model.specs.Topological.{open_pins, IsQueue, is_placed, are_placed, IsRest}
use Rattle.net_model.proofs.Copies.{later, pins_within}
use Rattle.net_model.proofs.Orders.{Contains-range}
use Rattle.net_model.proofs.OpenPins.{all_told, told_from}
use Rattle.net_model.proofs.Elements.{all_from, all_parts, true_false}
use Rattle.net_model.proofs.QueueSteps.{source_pins}

-- ---- lists without repeats

take_out : (xs : List ℕ) (x : ℕ) → Contains xs x → (before : List ℕ) × (after : List ℕ) × (xs ≡ before ++ x ∷ after)
take_out [] x (k, h, e) = absurd (omega (arith, h))
take_out (y ∷ ys) x (zero, h, e) = ([], ys, ap (λ z. z ∷ ys) e)
take_out (y ∷ ys) x (suc k, h, e) = let r = take_out ys x (k, omega (arith, h), e) in (y ∷ r.0, r.1, ap (λ zs. y ∷ zs) r.2)

-- a list without repeats whose elements are in another list is the beginning of a permutation of that list
completed : (xs ys : List ℕ) → ((j k : ℕ) → j < k → k < length xs → get_or xs j 0 ≢ get_or xs k 0) → ((x : ℕ) → Contains xs x → Contains ys x)
    → (left : List ℕ) × IsPermutation ys (xs ++ left)
completed [] ys distinct inside = (ys, IsPermutation-refl ys)
completed (x ∷ xs) ys distinct inside =
    let rest = completed xs ys (λ j k lt h. distinct (suc j) (suc k) (omega arith) (omega arith)) (λ y m. inside y (later x xs y m)) in
    elim (Contains-append_cases xs rest.0 x (Contains-permutation ys (xs ++ rest.0) x rest.1 (inside x (0, omega arith, refl)))) [
      | inl (k, h, e) ↦ absurd (distinct 0 (suc k) (omega arith) (omega (arith, h)) (sym (get_or_default xs k 0 x h ∙ e)))
      | inr has ↦
          let out = take_out rest.0 x has in
          let same : xs ++ rest.0 ≡ (xs ++ out.0) ++ x ∷ out.1 = ap (λ zs. xs ++ zs) out.2 ∙ sym (append_assoc xs out.0 (x ∷ out.1)) in
          let moved = IsPermutation-middle (xs ++ out.0) x out.1 in
          let all : IsPermutation ys (x ∷ ((xs ++ out.0) ++ out.1)) = IsPermutation-trans ys ((xs ++ out.0) ++ x ∷ out.1) (x ∷ ((xs ++ out.0) ++ out.1)) (subst (IsPermutation ys) same rest.1) moved in
          (out.0 ++ out.1, subst (IsPermutation ys) (ap (λ zs. x ∷ zs) (append_assoc xs out.0 out.1)) all)
    ]

pub no_longer : (xs ys : List ℕ) → ((j k : ℕ) → j < k → k < length xs → get_or xs j 0 ≢ get_or xs k 0) → ((x : ℕ) → Contains xs x → Contains ys x) → length xs ≤ length ys
no_longer xs ys distinct inside =
    let r = completed xs ys distinct inside in omega (arith, length_permutation ys (xs ++ r.0) r.1, length-append xs r.0)

-- ---- removed gates

module _ (c : Circuit) where
  removed_more : (n line : ℕ) → is_removed_within c n line ≡ true → is_removed_within c (suc n) line ≡ true
  removed_more zero line t = or_left (nat_lt line c.sources) (list_all (is_removed_within c 0) (pins_of c line)) t
  removed_more (suc n) line t =
      elim (or_cases (nat_lt line c.sources) (list_all (is_removed_within c n) (pins_of c line)) t) [
        | inl source ↦ or_left (nat_lt line c.sources) (list_all (is_removed_within c (suc n)) (pins_of c line)) source
        | inr pins ↦
            or_right (nat_lt line c.sources) (list_all (is_removed_within c (suc n)) (pins_of c line))
            (all_from (is_removed_within c (suc n)) (pins_of c line) (λ pin m. removed_more n pin (all_parts (is_removed_within c n) (pins_of c line) pins pin m)))
      ]

  removed_by : (n m line : ℕ) → is_removed_within c n line ≡ true → is_removed_within c (n + m) line ≡ true
  removed_by n zero line t = let e : n + zero ≡ n = omega arith in rw e t
  removed_by n (suc m) line t = let e : n + suc m ≡ suc (n + m) = omega arith in rw e (removed_more (n + m) line (removed_by n m line t))

  pub removed_later : (n m line : ℕ) → n ≤ m → is_removed_within c n line ≡ true → is_removed_within c m line ≡ true
  removed_later n m line le t = let e : n + (m - n) ≡ m = omega arith in subst (λ k. is_removed_within c k line ≡ true) e (removed_by n (m - n) line t)

-- at most as many gates are in order as there are gates
pub queue_short : (c : Circuit) (told waits order : List ℕ) → IsQueue c told waits order → length order ≤ length c.gates
queue_short c told waits order is =
    omega (arith, length-range_with_len c.sources (length c.gates), no_longer order (gate_lines c) is.ready.distinct (λ line m. Contains-range c.sources (length c.gates) line (is.gates line m).0 (is.gates line m).1))

module _ (c : Circuit) (fits : FitsTogether c) (waits order : List ℕ) (is : IsQueue c order waits order) where
  -- the gate at place i of the order is removed within i + 1 rounds
  removed_at : (n i : ℕ) → i < n → i < length order → is_removed_within c (suc i) (get_or order i 0) ≡ true
  removed_at zero i lt h = absurd (omega arith)
  removed_at (suc n) i lt h =
      or_right (nat_lt (get_or order i 0) c.sources) (list_all (is_removed_within c i) (pins_of c (get_or order i 0)))
      (all_from (is_removed_within c i) (pins_of c (get_or order i 0))
      (λ pin m. elim (is.after i pin h m) [
        | inl source ↦ removed_later c 0 i pin (omega arith) (lt-ltb pin c.sources source)
        | inr (k, within, there) ↦
            let len = length-take i order in
            let below : k < i = omega (arith, within, len) in
            let e : get_or order k 0 ≡ pin = get_or_default order k 0 pin (omega arith) ∙ (sym (get_or-take i order k pin below) ∙ there) in
            removed_later c (suc k) i pin (omega arith) (subst (λ p. is_removed_within c (suc k) p ≡ true) e (removed_at n k (omega arith) (omega arith)))
      ]))

  placed_is : (line : ℕ) → line < line_count c → is_placed waits line ≡ true → (line < c.sources) ⊎ Contains order line
  placed_is line below t =
      elim (cases_lt line c.sources) [
        | inl source ↦ inl source
        | inr gate ↦ inr (is.all line gate below (eqb-true (get_or waits line 0) 0 t))
      ]

  source_placed : (line : ℕ) → line < c.sources → is_placed waits line ≡ true
  source_placed line h = eq-eqb (get_or waits line 0) 0 (is.counts line (omega arith) ∙ ap (open_pins c.sources order) (source_pins c line h))

  placed_removed : (line : ℕ) → line < line_count c → is_placed waits line ≡ true → is_removed_within c (length c.gates) line ≡ true
  placed_removed line below t =
      elim (placed_is line below t) [
        | inl source ↦ removed_later c 0 (length c.gates) line (omega arith) (lt-ltb line c.sources source)
        | inr (k, within, there) ↦
            let e : get_or order k 0 ≡ line = get_or_default order k 0 line within ∙ there in
            removed_later c (suc k) (length c.gates) line (omega (arith, within, queue_short c order waits order is)) (subst (λ p. is_removed_within c (suc k) p ≡ true) e (removed_at (suc k) k (omega arith) within))
      ]

  -- a line that isn't placed reads one that isn't
  onward : (line : ℕ) → line < line_count c → is_placed waits line ≡ false → are_placed waits (pins_of c line) ≡ false
  onward line h off =
      false_from_ne_true (are_placed waits (pins_of c line))
      (λ t. true_false (is_placed waits line)
      (eq-eqb (get_or waits line 0) 0 (is.counts line h ∙ all_told c.sources order (pins_of c line)
      (λ pin m. told_from c.sources order pin (placed_is pin (pins_within c fits.pins line pin m) (all_parts (is_placed waits) (pins_of c line) t pin m))))) off)

  never_removed : (n line : ℕ) → line < line_count c → is_placed waits line ≡ false → is_removed_within c n line ≡ false
  never_removed zero line h f =
      le-ltb line c.sources (elim (cases_lt line c.sources) [
        | inl source ↦ true_false (is_placed waits line) (source_placed line source) f
        | inr gate ↦ gate
      ])
  never_removed (suc n) line h f =
      false_from_ne_true (is_removed_within c (suc n) line)
      (λ t. elim (or_cases (nat_lt line c.sources) (list_all (is_removed_within c n) (pins_of c line)) t) [
        | inl source ↦ true_false (is_placed waits line) (source_placed line (ltb-true line c.sources source)) f
        | inr pins ↦
            true_false (are_placed waits (pins_of c line))
            (all_from (is_placed waits) (pins_of c line)
            (λ pin m. elim (cases_Bool (is_placed waits pin)) [
              | inl on ↦ on
              | inr off ↦ true_false (is_removed_within c n pin) (all_parts (is_removed_within c n) (pins_of c line) pins pin m) (never_removed n pin (pins_within c fits.pins line pin m) off)
            ]))
            (onward line h f)
      ])

  left_exact : (line : ℕ) → line < line_count c → is_left c line ≡ not (is_placed waits line)
  unfolding is_left
  left_exact line h =
      elim (cases_Bool (is_placed waits line)) [
        | inl on ↦ ap not (placed_removed line h on ∙ sym on)
        | inr off ↦ ap not (never_removed (length c.gates) line h off ∙ sym off)
      ]

  pub rest_is : IsRest c waits
  rest_is = record { whole = is.whole; left = left_exact; sources = source_placed; onward = onward }

-- ---- the order, if no gate is left

pub whole_order : (c : Circuit) (waits order : List ℕ) → IsQueue c order waits order → length c.gates ≤ length order → IsOrder c order
whole_order c waits order is long =
    let all = completed order (gate_lines c) is.ready.distinct (λ line m. Contains-range c.sources (length c.gates) line (is.gates line m).0 (is.gates line m).1) in
    let none : all.0 ≡ [] = nil_from_length all.0 (omega (arith, long, length_permutation (gate_lines c) (order ++ all.0) all.1, length-append order all.0, length-range_with_len c.sources (length c.gates))) in
    let gates : IsPermutation (gate_lines c) order = subst (IsPermutation (gate_lines c)) (ap (λ xs. order ++ xs) none ∙ append-nil order) all.1 in
    record {
      whole = IsPermutation-sym (gate_lines c) order gates;
      sorted = λ at before line reader there m above earlier.
          let inside = slice_get_within order at reader there in
          let here : get_or order at 0 ≡ reader = get_or_from_slice_get order at reader 0 there in
          let reaches = slice_get_within order before line earlier in
          elim (is.after at line inside (subst (Feeds c line) (sym here) m)) [
            | inl source ↦ absurd (omega arith)
            | inr (k, within, that) ↦
                let below : k < at = omega (arith, within, length-take at order) in
                let e : get_or order k 0 ≡ line = get_or_default order k 0 line (omega arith) ∙ (sym (get_or-take at order k line below) ∙ that) in
                elim (cases_lt before at) [
                  | inl less ↦ less
                  | inr more ↦ absurd (is.ready.distinct k before (omega arith) reaches (e ∙ sym (get_or_from_slice_get order before line 0 earlier)))
                ]
          ];
    }
