-- Answers without repeats.
use Rattle.std.proofs.Common.{◌≡◌, ◌≢◌, ◌∙◌, ℕ, ◌<◌, ◌≤◌, Bool, true, false, not, cond, ◌||◌, List, [], ◌∷◌, ◌++◌, length, get_or, refl, sym, ap, subst, arith, inl, inr, filter, Contains}
use Rattle.std.specs.Prelude.{AllPairs}
use Rattle.std.specs.Bool.{Decides}
use Rattle.std.specs.Cmp.{booleans_Decides}
use Rattle.std.specs.List.{list_any}
use Rattle.std.proofs.lemmas.Bool.{cases_Bool, cases_order, false_from_ne_true}
use Rattle.std.proofs.lemmas.List.{append-nil}
use Rattle.std.proofs.lemmas.List.Elements.{All-weaker, filter-append, filter_passes}
use Rattle.std.proofs.lemmas.List.Kept.{AllPairs-cons, AllPairs-filter}
use Rattle.std.proofs.lemmas.List.Sums.{length-filter, count_by-le-length}
use Rattle.std.proofs.lemmas.Slice.Eq.{slice_eq-Decides}
use Rattle.net_model.specs.ClassTable.{same_bits}
use Rattle.net_model.proofs.Elements.{none_in, true_false, first_or_later, any_from, passing, Contains-filter, Contains-from_filter}
use Rattle.net_model.proofs.Copies.{later}
use Rattle.answer_numbers.specs.Distinct.{distinct_answers}

tells_same : (a b : List Bool) → Decides (same_bits a b) (a ≡ b)
tells_same a b = slice_eq-Decides booleans_Decides a b (same_bits a b) refl

abbrev differs_from : List Bool → List Bool → Bool
differs_from answer other = not (same_bits answer other)

same_itself : (x : List Bool) → same_bits x x ≡ true
same_itself x = (tells_same x x).1 refl

-- ---- one answer more

-- whether an answer is among others
abbrev pub is_among : List Bool → List (List Bool) → Bool
is_among x xs = list_any (same_bits x) xs

pub among_is : (x : List Bool) (xs : List (List Bool)) → is_among x xs ≡ true → Contains xs x
among_is x xs e = let w = passing (same_bits x) xs e in subst (Contains xs) (sym ((tells_same x w.0).0 w.2)) w.1

pub is_among_from : (x : List Bool) (xs : List (List Bool)) → Contains xs x → is_among x xs ≡ true
is_among_from x xs h = any_from (same_bits x) xs x h (same_itself x)

same_back : (x y : List Bool) → same_bits x y ≡ same_bits y x
same_back x y = elim (cases_Bool (same_bits x y)) [
  | inl so ↦ so ∙ sym ((tells_same y x).1 (sym ((tells_same x y).0 so)))
  | inr not_so ↦ not_so ∙ sym (false_from_ne_true (same_bits y x) (λ so. true_false (same_bits x y) ((tells_same x y).1 (sym ((tells_same y x).0 so))) not_so))
]

last_one : (s b a : Bool) (x y : List Bool) (zs : List (List Bool)) → b ≡ s → a ≡ false → y ∷ (zs ++ cond (not b) (x ∷ []) []) ≡ cond (s || a) (y ∷ zs) (y ∷ zs ++ x ∷ [])
last_one true b a x y zs same none = ap (λ c. y ∷ (zs ++ cond (not c) (x ∷ []) [])) same ∙ ap (λ ws. y ∷ ws) (append-nil zs)
last_one false b a x y zs same none = ap (λ c. y ∷ (zs ++ cond (not c) (x ∷ []) [])) same ∙ sym (ap (λ c. cond c (y ∷ zs) (y ∷ zs ++ x ∷ [])) none)

pub distinct_push : (xs : List (List Bool)) (x : List Bool) → distinct_answers (xs ++ x ∷ []) ≡ cond (is_among x xs) (distinct_answers xs) (distinct_answers xs ++ x ∷ [])
distinct_push [] x = refl
distinct_push (y ∷ ys) x =
    let kept = filter (differs_from y) (distinct_answers ys) in
    elim (cases_Bool (is_among x ys)) [
      | inl so ↦
          ap (λ zs. y ∷ filter (differs_from y) zs) (distinct_push ys x ∙ ap (λ b. cond b (distinct_answers ys) (distinct_answers ys ++ x ∷ [])) so)
          ∙ sym (ap (λ b. cond b (y ∷ kept) (y ∷ kept ++ x ∷ [])) (is_among_from x (y ∷ ys) (later y ys x (among_is x ys so))))
      | inr not_so ↦
          ap (λ zs. y ∷ filter (differs_from y) zs) (distinct_push ys x ∙ ap (λ b. cond b (distinct_answers ys) (distinct_answers ys ++ x ∷ [])) not_so)
          ∙ (ap (λ zs. y ∷ zs) (filter-append (differs_from y) (distinct_answers ys) (x ∷ []))
          ∙ last_one (same_bits x y) (same_bits y x) (is_among x ys) x y kept (same_back y x) not_so)
    ]

-- ---- the same answers

pub in_distinct : (xs : List (List Bool)) (x : List Bool) → Contains xs x → Contains (distinct_answers xs) x
in_distinct [] x h = absurd (none_in x h)
in_distinct (y ∷ ys) x h = elim (cases_Bool (same_bits y x)) [
  | inl so ↦ (0, omega arith, (tells_same y x).0 so)
  | inr not_so ↦ elim (first_or_later y ys x h) [
    | inl e ↦ absurd (true_false (same_bits y x) ((tells_same y x).1 e) not_so)
    | inr more ↦ later y (filter (differs_from y) (distinct_answers ys)) x (Contains-filter (differs_from y) (distinct_answers ys) x (in_distinct ys x more) (ap not not_so))
  ]
]

pub from_distinct : (xs : List (List Bool)) (x : List Bool) → Contains (distinct_answers xs) x → Contains xs x
from_distinct [] x h = absurd (none_in x h)
from_distinct (y ∷ ys) x h = elim (first_or_later y (filter (differs_from y) (distinct_answers ys)) x h) [
  | inl e ↦ (0, omega arith, e)
  | inr more ↦ later y ys x (from_distinct ys x (Contains-from_filter (differs_from y) (distinct_answers ys) x more).0)
]

-- there are at most as many as answers
pub distinct-few : (xs : List (List Bool)) → length (distinct_answers xs) ≤ length xs
distinct-few [] = omega arith
distinct-few (x ∷ xs) = omega (arith, distinct-few xs, length-filter (differs_from x) (distinct_answers xs), count_by-le-length (differs_from x) (distinct_answers xs))

-- ---- no answer twice

distinct_pairs : (xs : List (List Bool)) → AllPairs (λ (x y : List Bool). x ≢ y) (distinct_answers xs)
distinct_pairs [] = λ i j d h l. absurd (omega (arith, l))
distinct_pairs (y ∷ ys) =
    let R : List Bool → List Bool → Type 0 = λ a b. a ≢ b in
    let kept = filter (differs_from y) (distinct_answers ys) in
    let P : List Bool → Type 0 = λ x. differs_from y x ≡ true in
    AllPairs-cons R y kept (All-weaker P (R y) (λ x passes e. true_false (differs_from y x) passes (ap not ((tells_same y x).1 e))) kept (filter_passes (differs_from y) (distinct_answers ys)))
    (AllPairs-filter R (differs_from y) (distinct_answers ys) (distinct_pairs ys))

-- two places that have one answer are one
pub distinct_apart : (xs : List (List Bool)) (a b : ℕ) → a < length (distinct_answers xs) → b < length (distinct_answers xs) → get_or (distinct_answers xs) a [] ≡ get_or (distinct_answers xs) b [] → a ≡ b
distinct_apart xs a b ha hb e = elim (cases_order a b) [
  | inl same ↦ same
  | inr other ↦ elim other [ inl low ↦ absurd (distinct_pairs xs a b [] low hb e) | inr high ↦ absurd (distinct_pairs xs b a [] high ha (sym e)) ]
]
