-- The first ranks: they have the least count, and with no count they are the numbers that have none.
use Rattle.std.proofs.Common.{◌≡◌, ◌∙◌, ℕ, zero, suc, ◌+◌, ◌<◌, ◌≤◌, ◌⊎◌, Bool, true, false, cond, List, [], ◌∷◌, map, length, get_or, min, refl, sym, ap, arith, inl, inr}
use Rattle.std.specs.Prelude.{All, filter, nat_le, sum_by, count_by, ◌==◌}
use Rattle.std.specs.List.{AllByRecursion, enumerate_from, fold, range_with_len}
use Rattle.std.proofs.lemmas.Bool.{cases_lt, eqb-true, eq-eqb}
use Rattle.std.proofs.lemmas.Bool.Decides.{nat_tests}
use Rattle.std.proofs.lemmas.List.Elements.{All-nil, All-cons, All-head, All-tail, All-from_recursion, recursion_from_All, All-filter, All-weaker}
use Rattle.std.proofs.lemmas.List.Sorted.{All-permutation, sum_by-IsPermutation}
use Rattle.std.proofs.lemmas.List.Sums.{sum_by-cons, length-filter}
use Rattle.ranked_diag.specs.Ranked.{least, counted_numbers, near_least, ranked_with, IsRanking}
use Rattle.ranked_diag.proofs.NearLemmas.{least-low}
use Rattle.ranked_diag.proofs.RankLemmas.{Rank, IsAtMost, AreRising, rising, rising_once}

-- whether a rank has this count
abbrev has_count : ℕ → Rank → Bool
has_count count rank = rank.0 == count

-- ---- what passes a test

-- if a first test passes all that a second one passes, what passes both is what passes the second
skipped_step : (q : Rank → Bool) (x : Rank) (xs : List Rank) (b : Bool) → (b ≡ true → ⊥) → filter q xs ≡ cond b (x ∷ filter q xs) (filter q xs)
skipped_step q x xs true never = absurd (never refl)
skipped_step q x xs false never = refl

twice_step : (q : Rank → Bool) (x : Rank) (ys xs : List Rank) (b : Bool) → (q x ≡ true → b ≡ true) → filter q ys ≡ filter q xs → filter q (cond b (x ∷ ys) ys) ≡ cond (q x) (x ∷ filter q xs) (filter q xs)
twice_step q x ys xs true implied rest = ap (λ (zs : List Rank). cond (q x) (x ∷ zs) zs) rest
twice_step q x ys xs false implied rest = rest ∙ skipped_step q x xs (q x) (λ e. let clash : ◌≡◌ {A = Bool} false true = implied e in absurd (cc))

twice_kept : (p q : Rank → Bool) → ((x : Rank) → q x ≡ true → p x ≡ true) → (xs : List Rank) → filter q (filter p xs) ≡ filter q xs
twice_kept p q implied [] = refl
twice_kept p q implied (x ∷ xs) = twice_step q x (filter p xs) xs (p x) (implied x) (twice_kept p q implied xs)

-- a sum over what passes
passed_step : (f : Rank → ℕ) (g : Rank → ℕ) (x : Rank) (ys xs : List Rank) (b : Bool) → cond {A = ℕ} b (f x) 0 ≡ g x → sum_by f ys ≡ sum_by g xs → sum_by f (cond b (x ∷ ys) ys) ≡ sum_by g (x ∷ xs)
passed_step f g x ys xs true e rest = omega (arith, e, rest, sum_by-cons f x ys, sum_by-cons g x xs)
passed_step f g x ys xs false e rest = omega (arith, e, rest, sum_by-cons g x xs)

sum_passed : (f : Rank → ℕ) (p : Rank → Bool) (xs : List Rank) → sum_by f (filter p xs) ≡ sum_by (λ x. cond {A = ℕ} (p x) (f x) 0) xs
sum_passed f p [] = refl
sum_passed f p (x ∷ xs) = passed_step f (λ y. cond {A = ℕ} (p y) (f y) 0) x (filter p xs) xs (p x) refl (sum_passed f p xs)

-- what rises still does
rising_step : (x : Rank) (ys : List Rank) (b : Bool) → (b ≡ true → AllByRecursion (IsAtMost x) ys) → AreRising ys → AreRising (cond b (x ∷ ys) ys)
rising_step x ys true low rest = (low refl, rest)
rising_step x ys false low rest = rest

rising_kept : (p : Rank → Bool) (xs : List Rank) → AreRising xs → AreRising (filter p xs)
rising_kept p [] all = tt
rising_kept p (x ∷ xs) all =
    rising_step x (filter p xs) (p x) (λ e. recursion_from_All (IsAtMost x) (filter p xs) (All-filter p (IsAtMost x) xs (All-from_recursion (IsAtMost x) xs all.0))) (rising_kept p xs all.1)

-- a count that isn't too high is among those near the least
kept_near : (counts : List ℕ) (within count : ℕ) → count ≤ least counts + within → filter (has_count count) (near_least counts within) ≡ filter (has_count count) (counted_numbers counts)
unfolding near_least
kept_near counts within count low =
    twice_kept (λ rank. nat_le rank.0 (least counts + within)) (has_count count)
    (λ x e. let is : x.0 ≡ count = eqb-true x.0 count e in let fits : x.0 ≤ least counts + within = omega (arith, is, low) in grind (arith, nat_tests)) (counted_numbers counts)

-- ---- numbers without a count

module _ (m : ℕ → ℕ) where
  abbrev numbered : ℕ → ℕ → List Rank
  numbered k n = map (λ number. (m number, number)) (range_with_len k n)

  counted_are : (k n : ℕ) → map (λ (x : ℕ × ℕ). (x.1, x.0)) (enumerate_from k (map m (range_with_len k n))) ≡ numbered k n
  counted_are k zero = refl
  counted_are k (suc n) = ap (λ (xs : List Rank). (m k, k) ∷ xs) (counted_are (k + 1) n)

  -- a rank with count 0 and a number at or after `low`
  abbrev IsFree : ℕ → Rank → Type 0
  IsFree low rank = (rank.0 ≡ 0) × (low ≤ rank.1)

  free_step : (low : ℕ) (x : Rank) (ys : List Rank) (b : Bool) → (b ≡ true → IsFree low x) → AllByRecursion (IsFree low) ys → AllByRecursion (IsFree low) (cond b (x ∷ ys) ys)
  free_step low x ys true is rest = (is refl, rest)
  free_step low x ys false is rest = rest

  all_free : (low k n : ℕ) → low ≤ k → AllByRecursion (IsFree low) (filter (has_count 0) (numbered k n))
  all_free low k zero h = tt
  all_free low k (suc n) h = free_step low (m k, k) (filter (has_count 0) (numbered (k + 1) n)) (has_count 0 (m k, k)) (λ e. (eqb-true (m k) 0 e, h)) (all_free low (k + 1) n (omega (arith, h)))

  free_rising : (k n : ℕ) → AreRising (filter (has_count 0) (numbered k n))
  free_rising k zero = tt
  free_rising k (suc n) =
      let rest = filter (has_count 0) (numbered (k + 1) n) in
      rising_step (m k, k) rest (has_count 0 (m k, k))
      (λ e. recursion_from_All (IsAtMost (m k, k)) rest (All-weaker (IsFree k) (IsAtMost (m k, k)) (λ x free. inr (eqb-true (m k) 0 e ∙ sym free.0, free.1)) rest (All-from_recursion (IsFree k) rest (all_free k (k + 1) n (omega arith)))))
      (free_rising (k + 1) n)

  numbers_step : (k : ℕ) (ys : List Rank) (xs : List ℕ) (b : Bool) → map (λ (rank : Rank). rank.1) ys ≡ xs → map (λ (rank : Rank). rank.1) (cond b ((m k, k) ∷ ys) ys) ≡ cond b (k ∷ xs) xs
  numbers_step k ys xs true rest = ap (λ (zs : List ℕ). k ∷ zs) rest
  numbers_step k ys xs false rest = rest

  free_numbers : (k n : ℕ) → map (λ (rank : Rank). rank.1) (filter (has_count 0) (numbered k n)) ≡ filter (λ number. m number == 0) (range_with_len k n)
  free_numbers k zero = refl
  free_numbers k (suc n) = numbers_step k (filter (has_count 0) (numbered (k + 1) n)) (filter (λ number. m number == 0) (range_with_len (k + 1) n)) (m k == 0) (free_numbers (k + 1) n)

  -- the numbers that a ranking has with count 0 are exactly those without a count
  pub ranked_with_none : (n within : ℕ) (ranks : List Rank) → IsRanking (map m (range_with_len 0 n)) within ranks → ranked_with 0 ranks ≡ filter (λ number. m number == 0) (range_with_len 0 n)
  ranked_with_none n within ranks is =
      let counts = map m (range_with_len 0 n) in
      let free = filter (has_count 0) (numbered 0 n) in
      let near : filter (has_count 0) (near_least counts within) ≡ free = kept_near counts within 0 (omega arith) ∙ ap (filter (has_count 0)) (counted_are 0 n) in
      let sums = λ (f : Rank → ℕ).
      (let g : Rank → ℕ = λ x. cond {A = ℕ} (has_count 0 x) (f x) 0 in
      let one : sum_by f (filter (has_count 0) ranks) ≡ sum_by f free =
      sum_passed f (has_count 0) ranks ∙ sum_by-IsPermutation g (near_least counts within) ranks is.exactly ∙ sym (sum_passed f (has_count 0) (near_least counts within)) ∙ ap (sum_by f) near in
      one) in
      let same : filter (has_count 0) ranks ≡ free = rising_once (filter (has_count 0) ranks) free (rising_kept (has_count 0) ranks (rising ranks is.ascend)) (free_rising 0 n) sums in
      ap (map (λ (rank : Rank). rank.1)) same ∙ free_numbers 0 n

-- ---- the least is the first

-- how often a count is among some
abbrev times : ℕ → List ℕ → ℕ
times count counts = count_by (λ x. x == count) counts

found_here : (count x : ℕ) (xs : List ℕ) → x ≡ count → 0 < times count (x ∷ xs)
found_here count x xs e =
    let one : cond {A = ℕ} (x == count) 1 0 ≡ 1 = ap (λ (b : Bool). cond {A = ℕ} b 1 0) (eq-eqb x count e) in
    omega (arith, one, sum_by-cons (λ y. cond {A = ℕ} (y == count) 1 0) x xs)

found_later : (count x : ℕ) (xs : List ℕ) → 0 < times count xs → 0 < times count (x ∷ xs)
found_later count x xs some = omega (arith, some, sum_by-cons (λ y. cond {A = ℕ} (y == count) 1 0) x xs)

-- the least is one of the counts
among : (x : ℕ) (xs : List ℕ) → (fold min x xs ≡ x) ⊎ (0 < times (fold min x xs) xs)
among x [] = inl refl
among x (y ∷ ys) = elim (among (min x y) ys) [
  | inl is ↦ elim (cases_lt y x) [
    | inl less ↦ inr (found_here (fold min (min x y) ys) y ys (omega (arith, is, less)))
    | inr more ↦ inl (omega (arith, is, more))
  ]
  | inr later ↦ inr (found_later (fold min (min x y) ys) y ys later)
]

least_stands : (counts : List ℕ) → 0 < length counts → 0 < times (least counts) counts
least_stands [] some = absurd (omega (arith, some))
least_stands (x ∷ xs) some = elim (among x xs) [
  | inl is ↦ found_here (fold min x xs) x xs (sym is)
  | inr later ↦ found_later (fold min x xs) x xs later
]

counted_times : (count k : ℕ) (counts : List ℕ) → count_by (has_count count) (map (λ (x : ℕ × ℕ). (x.1, x.0)) (enumerate_from k counts)) ≡ times count counts
counted_times count k [] = refl
counted_times count k (x ∷ xs) =
    omega (arith, sum_by-cons (λ (r : Rank). cond {A = ℕ} (has_count count r) 1 0) (x, k) (map (λ (x : ℕ × ℕ). (x.1, x.0)) (enumerate_from (k + 1) xs)), sum_by-cons (λ y. cond {A = ℕ} (y == count) 1 0) x xs, counted_times count (k + 1) xs)

-- the least is a count of the ranking, and none is less
ranked_times : (counts : List ℕ) (within : ℕ) (ranks : List Rank) → IsRanking counts within ranks → count_by (has_count (least counts)) ranks ≡ times (least counts) counts
ranked_times counts within ranks is =
    let low = least counts in
    sum_by-IsPermutation (λ (r : Rank). cond {A = ℕ} (has_count low r) 1 0) (near_least counts within) ranks is.exactly
    ∙ sym (length-filter (has_count low) (near_least counts within)) ∙ ap length (kept_near counts within low (omega arith)) ∙ length-filter (has_count low) (counted_numbers counts)
    ∙ counted_times low 0 counts

counted_low : (low k : ℕ) (counts : List ℕ) → All (λ count. low ≤ count) counts → All (λ (r : Rank). low ≤ r.0) (map (λ (x : ℕ × ℕ). (x.1, x.0)) (enumerate_from k counts))
counted_low low k [] all = All-nil (λ (r : Rank). low ≤ r.0)
counted_low low k (x ∷ xs) all =
    All-cons (λ (r : Rank). low ≤ r.0) (x, k) (map (λ (x : ℕ × ℕ). (x.1, x.0)) (enumerate_from (k + 1) xs)) (All-head (λ count. low ≤ count) x xs all)
    (counted_low low (k + 1) xs (All-tail (λ count. low ≤ count) x xs all))

ranked_low : (counts : List ℕ) (within : ℕ) (ranks : List Rank) → IsRanking counts within ranks → All (λ (r : Rank). least counts ≤ r.0) ranks
unfolding near_least
ranked_low counts within ranks is =
    let Low : Rank → Type 0 = λ r. least counts ≤ r.0 in
    All-permutation Low (near_least counts within) ranks is.exactly
    (All-filter (λ rank. nat_le rank.0 (least counts + within)) Low (counted_numbers counts) (counted_low (least counts) 0 counts (least-low counts)))

-- if each of some ranks has at least `low` and one has `count`, then `count` is at least `low`
passing_step : (low count : ℕ) (z : Rank) (zs : List Rank) (b : Bool) → z.0 == count ≡ b → low ≤ z.0 → 0 < count_by (has_count count) (z ∷ zs) → (0 < count_by (has_count count) zs → low ≤ count) → low ≤ count
passing_step low count z zs true e here some rest = omega (arith, here, eqb-true z.0 count e)
passing_step low count z zs false e here some rest =
    let none : cond {A = ℕ} (z.0 == count) 1 0 ≡ 0 = ap (λ (b : Bool). cond {A = ℕ} b 1 0) e in
    rest (omega (arith, some, none, sum_by-cons (λ (r : Rank). cond {A = ℕ} (has_count count r) 1 0) z zs))

some_low : (low count : ℕ) (zs : List Rank) → AllByRecursion (λ (r : Rank). low ≤ r.0) zs → 0 < count_by (has_count count) zs → low ≤ count
some_low low count [] all some = absurd (omega (arith, some))
some_low low count (z ∷ zs) all some = passing_step low count z zs (z.0 == count) refl all.0 some (some_low low count zs all.1)

at_most_low : (x z : Rank) → IsAtMost x z → x.0 ≤ z.0
at_most_low x z (inl less) = omega (arith, less)
at_most_low x z (inr same) = omega (arith, same.0)

first_of : (ranks : List Rank) (low : ℕ) → 0 < count_by (has_count low) ranks → AreRising ranks → AllByRecursion (λ (r : Rank). low ≤ r.0) ranks → (0 < length ranks) × ((d : Rank) → (get_or ranks 0 d).0 ≡ low)
first_of [] low some rise all = absurd (omega (arith, some))
first_of (x ∷ xs) low some rise all =
    let above = recursion_from_All (λ (r : Rank). x.0 ≤ r.0) xs (All-weaker (IsAtMost x) (λ (r : Rank). x.0 ≤ r.0) (λ z most. at_most_low x z most) xs (All-from_recursion (IsAtMost x) xs rise.0)) in
    let high : x.0 ≤ low = some_low x.0 low (x ∷ xs) (omega arith, above) some in
    (omega arith, λ d. omega (arith, high, all.0))

-- the first rank has the least count
pub first_is_least : (counts : List ℕ) (within : ℕ) (ranks : List Rank) → 0 < length counts → IsRanking counts within ranks → (0 < length ranks) × ((d : Rank) → (get_or ranks 0 d).0 ≡ least counts)
first_is_least counts within ranks some is =
    first_of ranks (least counts) (omega (arith, ranked_times counts within ranks is, least_stands counts some)) (rising ranks is.ascend) (recursion_from_All (λ (r : Rank). least counts ≤ r.0) ranks (ranked_low counts within ranks is))
