-- Counts of what classes answer, number by number.
use Rattle.std.proofs.Common.{◌≡◌, ◌≢◌, ◌∙◌, ℕ, ◌+◌, ◌-◌, ◌*◌, ◌<◌, ◌≤◌, ◌^◌, refl, ap, sym, subst, arith, inl, inr, get_or, set, take}
use Rattle.std.specs.Prelude.{All, Bool, true, false, not, ◌==◌, if◌then◌else◌, List, [], ◌∷◌, ◌++◌, map, length, filter, find, Option, None, Some, unwrap_or, count_by, slice_index}
use Rattle.std.specs.Option.{option_or}
use Rattle.std.proofs.lemmas.Bool.{eq-eqb, ne_eqb, cases_eq}
use Rattle.std.proofs.lemmas.Nat.{mul-lt}
use Rattle.std.proofs.lemmas.List.{get_or-set_same, get_or-set_other, map-append, take_more, length-map, length-append, length-take-le}
use Rattle.std.proofs.lemmas.List.Elements.{filter-append}
use Rattle.std.proofs.lemmas.List.Folds.{find-append}
use Rattle.std.proofs.lemmas.List.Sums.{count_by-le-length, length-filter}
use Rattle.adaptive_planner.specs.declared.class_numbers.ClassNumbers.{ClassNumbers}
use Rattle.adaptive_planner.specs.Numbering.{number_for, class_number, own_numbers, AreOwnNumbers, AreClassNumbers}
use Rattle.adaptive_planner.specs.Counting.{unequal_pairs, not_first, pattern_numbers, set_lists, AreListsCounted}
use Rattle.adaptive_planner.proofs.PairLemmas.{count_push_yes, count_push_no, pairs_push, count_split, not_first_yes, first_is_not, few_pairs}

pub pattern_numbers-set : (c : ClassNumbers) (pattern : ℕ) (set : List ℕ) → pattern_numbers c.patterns.items pattern (set_lists c set) ≡ map (class_number c pattern) set
pattern_numbers-set c pattern [] = refl
pattern_numbers-set c pattern (x ∷ xs) = ap (λ ns. class_number c pattern x ∷ ns) (pattern_numbers-set c pattern xs)

pub length-numbers : (c : ClassNumbers) (pattern : ℕ) (set : List ℕ) → length (map (class_number c pattern) set) ≡ length set
length-numbers c pattern [] = refl
length-numbers c pattern (x ∷ xs) = omega (arith, length-numbers c pattern xs)

pub square_fits : (n pairs : ℕ) → pairs ≤ n * n → n < 2 ^ 32 → pairs < 2 ^ 64
square_fits n pairs few small = omega (arith, few, mul-lt n n (2 ^ 32) (2 ^ 32) small small)

append_none : (xs : List ℕ) → xs ++ [] ≡ xs
append_none [] = refl
append_none (x ∷ xs) = ap (λ ys. x ∷ ys) (append_none xs)

without_zero : (xs : List ℕ) → filter not_first (xs ++ 0 ∷ []) ≡ filter not_first xs
without_zero xs = filter-append not_first xs (0 ∷ []) ∙ append_none (filter not_first xs)

-- ---- the list of a class

module _ (patterns : List ℕ) where
  abbrev pub is_at : ℕ → ℕ → Bool
  is_at pattern n = slice_index patterns n == pattern

  find_one : (test : ℕ → Bool) (n : ℕ) (b : Bool) → test n ≡ b → find test (n ∷ []) ≡ (if b then Some n else None)
  find_one test n b e = ap (λ c. if c then Some n else None) e

  or_none : (o : Option ℕ) → option_or o None ≡ o
  or_none None = refl
  or_none (Some x) = refl

  pub number_for-other : (pattern n : ℕ) (list : List ℕ) → slice_index patterns n ≢ pattern → number_for patterns pattern (list ++ n ∷ []) ≡ number_for patterns pattern list
  number_for-other pattern n list other =
      ap (λ (o : Option ℕ). unwrap_or o 0)
      (find-append (is_at pattern) list (n ∷ [])
      ∙ (ap (λ (o : Option ℕ). option_or (find (is_at pattern) list) o) (find_one (is_at pattern) n false (ne_eqb (slice_index patterns n) pattern other)) ∙ or_none (find (is_at pattern) list)))

  pub number_for-here : (pattern n : ℕ) (list : List ℕ) → slice_index patterns n ≡ pattern → find (is_at pattern) list ≡ None → number_for patterns pattern (list ++ n ∷ []) ≡ n
  number_for-here pattern n list same none =
      ap (λ (o : Option ℕ). unwrap_or o 0)
      (find-append (is_at pattern) list (n ∷ [])
      ∙ (ap (λ (o : Option ℕ). option_or o (find (is_at pattern) (n ∷ []))) none ∙ find_one (is_at pattern) n true (eq-eqb (slice_index patterns n) pattern same)))

  pub pattern_numbers-push : (pattern : ℕ) (lists : List (List ℕ)) (list : List ℕ) → pattern_numbers patterns pattern (lists ++ list ∷ []) ≡ pattern_numbers patterns pattern lists ++ number_for patterns pattern list ∷ []
  pattern_numbers-push pattern lists list = map-append (number_for patterns pattern) lists (list ∷ [])

  -- ---- one more number in the last list

  module _ (limit : ℕ) (lists : List (List ℕ)) (list : List ℕ) (n : ℕ) (some : 0 < n) (known : n < length patterns) (once : find (λ m. slice_index patterns m == slice_index patterns n) list ≡ None) where
    abbrev pub own : ℕ
    own = slice_index patterns n

    abbrev pub before : ℕ → List ℕ
    before pattern = pattern_numbers patterns pattern (lists ++ list ∷ [])

    abbrev pub after : ℕ → List ℕ
    after pattern = pattern_numbers patterns pattern (lists ++ (list ++ n ∷ []) ∷ [])

    abbrev pub all : ℕ → List ℕ
    all pattern = pattern_numbers patterns pattern lists

    pub elsewhere : (pattern : ℕ) → own ≢ pattern → after pattern ≡ before pattern
    elsewhere pattern other =
        pattern_numbers-push pattern lists (list ++ n ∷ []) ∙ (ap (λ k. all pattern ++ k ∷ []) (number_for-other pattern n list other) ∙ sym (pattern_numbers-push pattern lists list))

    pub before_here : before own ≡ all own ++ 0 ∷ []
    before_here = pattern_numbers-push own lists list ∙ ap (λ (o : Option ℕ). all own ++ unwrap_or o 0 ∷ []) once

    pub after_here : after own ≡ all own ++ n ∷ []
    after_here = pattern_numbers-push own lists (list ++ n ∷ []) ∙ ap (λ k. all own ++ k ∷ []) (number_for-here own n list refl once)

    pub often_here : count_by (λ k. k == n) (after own) ≡ count_by (λ k. k == n) (before own) + 1
    often_here =
        let zero_isnt : 0 == n ≡ false = ne_eqb 0 n (λ e. omega (arith, e, some)) in
        omega (
          arith,
          ap (count_by (λ k. k == n)) after_here,
          ap (count_by (λ k. k == n)) before_here,
          count_push_yes (λ k. k == n) (all own) n (eq-eqb n n refl),
          count_push_no (λ k. k == n) (all own) 0 zero_isnt,
        )

    pub often_other : (m : ℕ) → 0 < m → m ≢ n → count_by (λ k. k == m) (after (slice_index patterns m)) ≡ count_by (λ k. k == m) (before (slice_index patterns m))
    often_other m above other = elim (cases_eq own (slice_index patterns m)) [
      | inr there ↦ ap (count_by (λ k. k == m)) (elsewhere (slice_index patterns m) there)
      | inl here ↦
          let zero_isnt : 0 == m ≡ false = ne_eqb 0 m (λ e. omega (arith, e, above)) in
          let n_isnt : n == m ≡ false = ne_eqb n m (λ e. other (sym e)) in
          subst (λ p. count_by (λ k. k == m) (after p) ≡ count_by (λ k. k == m) (before p)) here
          (omega (
            arith,
            ap (count_by (λ k. k == m)) after_here,
            ap (count_by (λ k. k == m)) before_here,
            count_push_no (λ k. k == m) (all own) n n_isnt,
            count_push_no (λ k. k == m) (all own) 0 zero_isnt,
          ))
    ]

    pub others_here : count_by not_first (after own) ≡ count_by not_first (before own) + 1
    others_here =
        omega (
          arith,
          ap (count_by not_first) after_here,
          ap (count_by not_first) before_here,
          count_push_yes not_first (all own) n (not_first_yes n some),
          count_push_no not_first (all own) 0 first_is_not,
        )

    filter_yes : (xs : List ℕ) → filter not_first (xs ++ n ∷ []) ≡ filter not_first xs ++ n ∷ []
    filter_yes xs = filter-append not_first xs (n ∷ []) ∙ ap (λ b. filter not_first xs ++ (if b then n ∷ [] else [])) (not_first_yes n some)

    pub apart_here : unequal_pairs (filter not_first (after own)) + count_by (λ k. k == n) (before own) ≡ unequal_pairs (filter not_first (before own)) + count_by not_first (before own)
    apart_here =
        let zero_isnt : 0 == n ≡ false = ne_eqb 0 n (λ e. omega (arith, e, some)) in
        let new : unequal_pairs (filter not_first (after own)) ≡ unequal_pairs (filter not_first (all own)) + count_by (λ x. not (x == n)) (filter not_first (all own)) =
        ap (λ xs. unequal_pairs (filter not_first xs)) after_here ∙ (ap unequal_pairs (filter_yes (all own)) ∙ pairs_push (filter not_first (all own)) n) in
        let old : unequal_pairs (filter not_first (before own)) ≡ unequal_pairs (filter not_first (all own)) = ap (λ xs. unequal_pairs (filter not_first xs)) before_here ∙ ap unequal_pairs (without_zero (all own)) in
        omega (
          arith,
          new,
          old,
          ap (count_by (λ k. k == n)) before_here,
          count_push_no (λ k. k == n) (all own) 0 zero_isnt,
          ap (count_by not_first) before_here,
          count_push_no not_first (all own) 0 first_is_not,
          count_split n some (all own),
        )

    pub length_before : length (before own) ≡ length lists + 1
    length_before = length-map {A = List ℕ} {B = ℕ} (lists ++ list ∷ []) (number_for patterns own) ∙ length-append {A = List ℕ} lists (list ∷ [])

    pub length_all : length (all own) ≡ length lists
    length_all = length-map {A = List ℕ} {B = ℕ} lists (number_for patterns own)

    module _ (often others apart : List ℕ) (few : length lists + 1 < 2 ^ 32) (within : own < limit) where
      module _ (is : AreListsCounted patterns limit (lists ++ list ∷ []) often others apart) where
        often_was : get_or often n 0 ≡ count_by (λ k. k == n) (all own)
        often_was =
            let zero_isnt : 0 == n ≡ false = ne_eqb 0 n (λ e. omega (arith, e, some)) in
            is.often_is n some known ∙ (ap (count_by (λ k. k == n)) before_here ∙ count_push_no (λ k. k == n) (all own) 0 zero_isnt)

        others_was : get_or others own 0 ≡ count_by not_first (all own)
        others_was = is.others_is own within ∙ (ap (count_by not_first) before_here ∙ count_push_no not_first (all own) 0 first_is_not)

        pub fewer_often : get_or often n 0 ≤ get_or others own 0
        fewer_often = omega (arith, often_was, others_was, count_split n some (all own))

        pub few_others : get_or others own 0 + 1 < 2 ^ 32
        few_others = omega (arith, others_was, few, length_all, count_by-le-length not_first (all own))

        pub apart_new : get_or apart own 0 + (get_or others own 0 - get_or often n 0) ≡ unequal_pairs (filter not_first (after own))
        apart_new = omega (arith, fewer_often, apart_here, is.often_is n some known, is.others_is own within, is.apart_is own within)

        pub few_apart : get_or apart own 0 + (get_or others own 0 - get_or often n 0) < 2 ^ 64
        few_apart =
            let small : length (filter not_first (after own)) < 2 ^ 32 = omega (arith, length-filter not_first (after own), others_here, is.others_is own within, few_others) in
            omega (arith, apart_new, square_fits (length (filter not_first (after own))) (unequal_pairs (filter not_first (after own))) (few_pairs (filter not_first (after own))) small)

        pub counted_more : n < length often → own < length others → own < length apart
            → AreListsCounted patterns limit (lists ++ (list ++ n ∷ []) ∷ []) (set often n (get_or often n 0 + 1)) (set others own (get_or others own 0 + 1)) (set apart own (get_or apart own 0 + (get_or others own 0 - get_or often n 0)))
        counted_more in_often in_others in_apart = record {
          often_is = λ m above low. elim (cases_eq m n) [
            | inl e ↦
                subst (λ (k : ℕ). get_or (set often n (get_or often n 0 + 1)) k 0 ≡ count_by (λ j. j == k) (after (slice_index patterns k))) (sym e)
                (get_or-set_same often n (get_or often n 0 + 1) 0 in_often ∙ omega (arith, is.often_is n some known, often_here))
            | inr ne ↦ get_or-set_other often n m (get_or often n 0 + 1) 0 ne ∙ (is.often_is m above low ∙ sym (often_other m above ne))
          ];
          others_is = λ p low. elim (cases_eq p own) [
            | inl e ↦
                subst (λ (k : ℕ). get_or (set others own (get_or others own 0 + 1)) k 0 ≡ count_by not_first (after k)) (sym e)
                (get_or-set_same others own (get_or others own 0 + 1) 0 in_others ∙ omega (arith, is.others_is own within, others_here))
            | inr ne ↦ get_or-set_other others own p (get_or others own 0 + 1) 0 ne ∙ (is.others_is p low ∙ ap (count_by not_first) (sym (elsewhere p (λ e. ne (sym e)))))
          ];
          apart_is = λ p low. elim (cases_eq p own) [
            | inl e ↦
                subst (λ (k : ℕ). get_or (set apart own (get_or apart own 0 + (get_or others own 0 - get_or often n 0))) k 0 ≡ unequal_pairs (filter not_first (after k))) (sym e)
                (get_or-set_same apart own (get_or apart own 0 + (get_or others own 0 - get_or often n 0)) 0 in_apart ∙ apart_new)
            | inr ne ↦ get_or-set_other apart own p (get_or apart own 0 + (get_or others own 0 - get_or often n 0)) 0 ne ∙ (is.apart_is p low ∙ ap (λ (ks : List ℕ). unequal_pairs (filter not_first ks)) (sym (elsewhere p (λ e. ne (sym e)))))
          ];
        }

        -- the same, of values that were read
        pub counted_more_by : (p x y v : ℕ) → p ≡ own → x ≡ get_or often n 0 → y ≡ get_or others own 0 → v ≡ get_or apart own 0 + (y - x) → n < length often → own < length others → own < length apart
            → AreListsCounted patterns limit (lists ++ (list ++ n ∷ []) ∷ []) (set often n (x + 1)) (set others p (y + 1)) (set apart p v)
        counted_more_by p x y v p_is x_is y_is v_is in_often in_others in_apart =
            let sum : v ≡ get_or apart own 0 + (get_or others own 0 - get_or often n 0) = v_is ∙ (λ i. get_or apart own 0 + (y_is i - x_is i)) in
            subst (λ (k : ℕ). AreListsCounted patterns limit (lists ++ (list ++ n ∷ []) ∷ []) (set often n (k + 1)) (set others p (y + 1)) (set apart p v)) (sym x_is)
            (subst (λ (k : ℕ). AreListsCounted patterns limit (lists ++ (list ++ n ∷ []) ∷ []) (set often n (get_or often n 0 + 1)) (set others p (k + 1)) (set apart p v)) (sym y_is)
            (subst (λ (k : ℕ). AreListsCounted patterns limit (lists ++ (list ++ n ∷ []) ∷ []) (set often n (get_or often n 0 + 1)) (set others k (get_or others own 0 + 1)) (set apart k v)) (sym p_is)
            (subst (λ (k : ℕ). AreListsCounted patterns limit (lists ++ (list ++ n ∷ []) ∷ []) (set often n (get_or often n 0 + 1)) (set others own (get_or others own 0 + 1)) (set apart own k)) (sym sum)
            (counted_more in_often in_others in_apart))))

      module _ (is : AreListsCounted patterns limit (lists ++ (list ++ n ∷ []) ∷ []) often others apart) where
        pub some_often : 1 ≤ get_or often n 0
        some_often = omega (arith, is.often_is n some known, often_here)

        pub some_others : 1 ≤ get_or others own 0
        some_others = omega (arith, is.others_is own within, others_here)

        often_then : get_or often n 0 - 1 ≡ count_by (λ k. k == n) (before own)
        often_then = omega (arith, is.often_is n some known, often_here)

        others_then : get_or others own 0 - 1 ≡ count_by not_first (before own)
        others_then = omega (arith, is.others_is own within, others_here)

        pub fewer_left : get_or often n 0 - 1 ≤ get_or others own 0 - 1
        fewer_left =
            let zero_isnt : 0 == n ≡ false = ne_eqb 0 n (λ e. omega (arith, e, some)) in
            omega (
              arith,
              often_then,
              others_then,
              count_split n some (all own),
              ap (count_by (λ k. k == n)) before_here,
              count_push_no (λ k. k == n) (all own) 0 zero_isnt,
              ap (count_by not_first) before_here,
              count_push_no not_first (all own) 0 first_is_not,
            )

        apart_then : get_or apart own 0 ≡ unequal_pairs (filter not_first (before own)) + (get_or others own 0 - 1 - (get_or often n 0 - 1))
        apart_then = omega (arith, fewer_left, apart_here, often_then, others_then, is.apart_is own within)

        pub enough_apart : get_or others own 0 - 1 - (get_or often n 0 - 1) ≤ get_or apart own 0
        enough_apart = omega (arith, apart_then)

        pub counted_less : n < length often → own < length others → own < length apart
            → AreListsCounted patterns limit (lists ++ list ∷ []) (set often n (get_or often n 0 - 1)) (set others own (get_or others own 0 - 1)) (set apart own (get_or apart own 0 - (get_or others own 0 - 1 - (get_or often n 0 - 1))))
        counted_less in_often in_others in_apart = record {
          often_is = λ m above low. elim (cases_eq m n) [
            | inl e ↦
                subst (λ (k : ℕ). get_or (set often n (get_or often n 0 - 1)) k 0 ≡ count_by (λ j. j == k) (before (slice_index patterns k))) (sym e)
                (get_or-set_same often n (get_or often n 0 - 1) 0 in_often ∙ often_then)
            | inr ne ↦ get_or-set_other often n m (get_or often n 0 - 1) 0 ne ∙ (is.often_is m above low ∙ often_other m above ne)
          ];
          others_is = λ p low. elim (cases_eq p own) [
            | inl e ↦
                subst (λ (k : ℕ). get_or (set others own (get_or others own 0 - 1)) k 0 ≡ count_by not_first (before k)) (sym e)
                (get_or-set_same others own (get_or others own 0 - 1) 0 in_others ∙ others_then)
            | inr ne ↦ get_or-set_other others own p (get_or others own 0 - 1) 0 ne ∙ (is.others_is p low ∙ ap (count_by not_first) (elsewhere p (λ e. ne (sym e))))
          ];
          apart_is = λ p low. elim (cases_eq p own) [
            | inl e ↦
                subst (λ (k : ℕ). get_or (set apart own (get_or apart own 0 - (get_or others own 0 - 1 - (get_or often n 0 - 1)))) k 0 ≡ unequal_pairs (filter not_first (before k))) (sym e)
                (get_or-set_same apart own (get_or apart own 0 - (get_or others own 0 - 1 - (get_or often n 0 - 1))) 0 in_apart ∙ omega (arith, apart_then))
            | inr ne ↦ get_or-set_other apart own p (get_or apart own 0 - (get_or others own 0 - 1 - (get_or often n 0 - 1))) 0 ne ∙ (is.apart_is p low ∙ ap (λ (ks : List ℕ). unequal_pairs (filter not_first ks)) (elsewhere p (λ e. ne (sym e))))
          ];
        }

        pub counted_less_by : (p x y v : ℕ) → p ≡ own → x ≡ get_or often n 0 - 1 → y ≡ get_or others own 0 - 1 → v ≡ get_or apart own 0 - (y - x) → n < length often → own < length others → own < length apart
            → AreListsCounted patterns limit (lists ++ list ∷ []) (set often n x) (set others p y) (set apart p v)
        counted_less_by p x y v p_is x_is y_is v_is in_often in_others in_apart =
            let rest : v ≡ get_or apart own 0 - (get_or others own 0 - 1 - (get_or often n 0 - 1)) = v_is ∙ (λ i. get_or apart own 0 - (y_is i - x_is i)) in
            subst (λ (k : ℕ). AreListsCounted patterns limit (lists ++ list ∷ []) (set often n k) (set others p y) (set apart p v)) (sym x_is)
            (subst (λ (k : ℕ). AreListsCounted patterns limit (lists ++ list ∷ []) (set often n (get_or often n 0 - 1)) (set others p k) (set apart p v)) (sym y_is)
            (subst (λ (k : ℕ). AreListsCounted patterns limit (lists ++ list ∷ []) (set often n (get_or often n 0 - 1)) (set others k (get_or others own 0 - 1)) (set apart k v)) (sym p_is)
            (subst (λ (k : ℕ). AreListsCounted patterns limit (lists ++ list ∷ []) (set often n (get_or often n 0 - 1)) (set others own (get_or others own 0 - 1)) (set apart own k)) (sym rest)
            (counted_less in_often in_others in_apart))))

-- ---- a class whose numbers aren't counted yet

module _ (patterns : List ℕ) (limit : ℕ) (lists : List (List ℕ)) where
  empty_at : (pattern : ℕ) → pattern_numbers patterns pattern (lists ++ [] ∷ []) ≡ pattern_numbers patterns pattern lists ++ 0 ∷ []
  empty_at pattern = pattern_numbers-push patterns pattern lists []

  empty_often : (n : ℕ) → 0 < n → (pattern : ℕ) → count_by (λ k. k == n) (pattern_numbers patterns pattern (lists ++ [] ∷ [])) ≡ count_by (λ k. k == n) (pattern_numbers patterns pattern lists)
  empty_often n some pattern =
      ap (count_by (λ k. k == n)) (empty_at pattern) ∙ count_push_no (λ k. k == n) (pattern_numbers patterns pattern lists) 0 (ne_eqb 0 n (λ e. omega (arith, e, some)))

  empty_others : (pattern : ℕ) → count_by not_first (pattern_numbers patterns pattern (lists ++ [] ∷ [])) ≡ count_by not_first (pattern_numbers patterns pattern lists)
  empty_others pattern = ap (count_by not_first) (empty_at pattern) ∙ count_push_no not_first (pattern_numbers patterns pattern lists) 0 first_is_not

  empty_apart : (pattern : ℕ) → unequal_pairs (filter not_first (pattern_numbers patterns pattern (lists ++ [] ∷ []))) ≡ unequal_pairs (filter not_first (pattern_numbers patterns pattern lists))
  empty_apart pattern = ap (λ (ks : List ℕ). unequal_pairs (filter not_first ks)) (empty_at pattern) ∙ ap unequal_pairs (without_zero (pattern_numbers patterns pattern lists))

  pub counted_begin : (often others apart : List ℕ) → AreListsCounted patterns limit lists often others apart → AreListsCounted patterns limit (lists ++ [] ∷ []) often others apart
  counted_begin often others apart is = record {
    often_is = λ n some low. is.often_is n some low ∙ sym (empty_often n some (slice_index patterns n));
    others_is = λ p low. is.others_is p low ∙ sym (empty_others p);
    apart_is = λ p low. is.apart_is p low ∙ sym (empty_apart p);
  }

  pub counted_end : (often others apart : List ℕ) → AreListsCounted patterns limit (lists ++ [] ∷ []) often others apart → AreListsCounted patterns limit lists often others apart
  counted_end often others apart is = record {
    often_is = λ n some low. is.often_is n some low ∙ empty_often n some (slice_index patterns n);
    others_is = λ p low. is.others_is p low ∙ empty_others p;
    apart_is = λ p low. is.apart_is p low ∙ empty_apart p;
  }

pub set_lists-more : (c : ClassNumbers) (set : List ℕ) (at : ℕ) → at < length set → set_lists c (take (at + 1) set) ≡ set_lists c (take at set) ++ own_numbers c (get_or set at 0) ∷ []
set_lists-more c set at low = ap (set_lists c) (take_more set at 0 low) ∙ map-append (own_numbers c) (take at set) (get_or set at 0 ∷ [])

pub own_are : (c : ClassNumbers) (set : List ℕ) (at : ℕ) (list : List ℕ) → AreClassNumbers c → All (λ class. class < length c.own.items) set → at < length set → list ≡ own_numbers c (get_or set at 0) → AreOwnNumbers c.patterns.items (length c.firsts.items) list
own_are c set at list are known low same = subst (AreOwnNumbers c.patterns.items (length c.firsts.items)) (sym same) (are.own (get_or set at 0) (known at 0 low))

pub few_lists : (c : ClassNumbers) (set : List ℕ) (at : ℕ) → at < length set → length set < 2 ^ 32 → length (set_lists c (take at set)) + 1 < 2 ^ 32
few_lists c set at low few = omega (arith, length-map {A = ℕ} {B = List ℕ} (take at set) (own_numbers c), length-take-le at set (omega (arith, low)), low, few)
