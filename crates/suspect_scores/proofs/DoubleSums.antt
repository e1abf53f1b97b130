-- Sums over lists of places and over ranges.
use Rattle.std.proofs.Common.{◌≡◌, ◌≢◌, ◌∙◌, ℕ, zero, suc, ◌+◌, ◌-◌, ◌<◌, ◌≤◌, List, [], ◌∷◌, length, get_or, refl, sym, ap, arith, inl, inr}
use Rattle.std.specs.Prelude.{sum_by, All, AllPairs, Contains}
use Rattle.std.specs.List.{range_with_len}
use Rattle.std.proofs.lemmas.Bool.{cases_eq}
use Rattle.std.proofs.lemmas.List.Sums.{sum_by-cons}
use Rattle.suspect_scores.proofs.RangeSums.{sum_joined}

-- ---- values that are 0

pub sum_none : (f : ℕ → ℕ) (a n : ℕ) → ((k : ℕ) → k < n → f (a + k) ≡ 0) → sum_by f (range_with_len a n) ≡ 0
sum_none f a zero none = refl
sum_none f a (suc n) none =
    let ea : a ≡ a + 0 = omega arith in
    let head : f a ≡ 0 = ap f ea ∙ none 0 (omega arith) in
    let rest = sum_none f (a + 1) n (λ k h. let da : (a + 1) + k ≡ a + (k + 1) = omega arith in ap f da ∙ none (k + 1) (omega (arith, h))) in
    omega (arith, sum_by-cons f a (range_with_len (a + 1) n), head, rest)

pub sum_short : (f : ℕ → ℕ) (n m : ℕ) → n ≤ m → ((k : ℕ) → n ≤ k → k < m → f k ≡ 0) → sum_by f (range_with_len 0 m) ≡ sum_by f (range_with_len 0 n)
sum_short f n m le none =
    let all : m ≡ n + (m - n) = omega (arith, le) in
    let rest : sum_by f (range_with_len (0 + n) (m - n)) ≡ 0 = sum_none f (0 + n) (m - n) (λ k h. none ((0 + n) + k) (omega arith) (omega (arith, h))) in
    ap (λ (j : ℕ). sum_by f (range_with_len 0 j)) all ∙ omega (arith, sum_joined f 0 n (m - n), rest)

-- ---- ascending places

-- what is 0 at each place that isn't listed has the same sum over a range as over the list
pub sum_ascending : (f : ℕ → ℕ) (xs : List ℕ) (a n : ℕ) → All (λ x. a ≤ x) xs → All (λ x. x < a + n) xs → AllPairs ◌<◌ xs → ((x : ℕ) → a ≤ x → x < a + n → (Contains xs x → ⊥) → f x ≡ 0)
    → sum_by f xs ≡ sum_by f (range_with_len a n)
sum_ascending f [] a zero low high up off = refl
sum_ascending f [] a (suc n) low high up off = sym (sum_none f a (suc n) (λ k h. off (a + k) (omega arith) (omega (arith, h)) (λ (j, inside, is). absurd (omega (arith, inside)))))
sum_ascending f (x ∷ xs) a zero low high up off = absurd (omega (arith, low 0 0 (omega arith), high 0 0 (omega arith)))
sum_ascending f (x ∷ xs) a (suc n) low high up off = elim (cases_eq x a) [
  | inl same ↦
      let above : All (λ y. a + 1 ≤ y) xs = λ k d h. omega (arith, same, up 0 (suc k) d (omega arith) (omega (arith, h))) in
      let rest = sum_ascending f xs (a + 1) n above (λ k d h. omega (arith, high (suc k) d (omega (arith, h)))) (λ i j d lt h. up (suc i) (suc j) d (omega (arith, lt)) (omega (arith, h)))
      (λ y lo hi none. off y (omega (arith, lo)) (omega (arith, hi)) (apart x a xs y lo same none)) in
      omega (arith, sum_by-cons f x xs, sum_by-cons f a (range_with_len (a + 1) n), ap f same, rest)
  | inr ne ↦
      let first : a ≤ x = low 0 0 (omega arith) in
      let above : All (λ y. a + 1 ≤ y) (x ∷ xs) = later x a xs first ne up in
      let none : f a ≡ 0 = off a (omega arith) (omega arith) (λ (k, h, is). absurd (omega (arith, above k a h, is))) in
      let rest = sum_ascending f (x ∷ xs) (a + 1) n above (λ k d h. omega (arith, high k d h)) up (λ y lo hi away. off y (omega (arith, lo)) (omega (arith, hi)) away) in
      omega (arith, sum_by-cons f a (range_with_len (a + 1) n), none, rest)
]
  where
    apart : (x a : ℕ) (xs : List ℕ) (y : ℕ) → a + 1 ≤ y → x ≡ a → (Contains xs y → ⊥) → Contains (x ∷ xs) y → ⊥
    apart x a xs y lo same none (zero, h, is) = absurd (omega (arith, lo, same, is))
    apart x a xs y lo same none (suc k, h, is) = none (k, omega (arith, h), is)

    later : (x a : ℕ) (xs : List ℕ) → a ≤ x → x ≢ a → AllPairs ◌<◌ (x ∷ xs) → All (λ y. a + 1 ≤ y) (x ∷ xs)
    later x a xs first ne up zero d h = omega (arith, first, ne)
    later x a xs first ne up (suc k) d h = omega (arith, first, up 0 (suc k) d (omega arith) h)

-- the number at a place is at least the place
pub place_low : (xs : List ℕ) → AllPairs ◌<◌ xs → (k : ℕ) → k < length xs → k ≤ get_or xs k 0
place_low xs up zero h = omega arith
place_low xs up (suc k) h = omega (arith, place_low xs up k (omega (arith, h)), up k (suc k) 0 (omega arith) h)
