-- Sums and counts over ranges.
use Rattle.std.proofs.Common.{◌≡◌, ◌∙◌, ℕ, zero, suc, ◌+◌, ◌*◌, ◌<◌, ◌≤◌, Bool, cond, List, [], ◌∷◌, length, get_or, refl, sym, ap, subst, arith}
use Rattle.std.specs.Prelude.{sum_by, count_by}
use Rattle.std.specs.List.{range_with_len}
use Rattle.std.proofs.lemmas.List.FromFn.{length-range_with_len}
use Rattle.std.proofs.lemmas.List.Sums.{sum_by-cons, sum_by-le, count_by-le-length}
use Rattle.suspect_scores.specs.Scored.{count_to}

abbrev pub one_of : {X : Type 0} → (X → Bool) → X → ℕ
one_of p x = cond (p x) 1 0

-- a range in two parts
pub sum_joined : (f : ℕ → ℕ) (a m n : ℕ) → sum_by f (range_with_len a (m + n)) ≡ sum_by f (range_with_len a m) + sum_by f (range_with_len (a + m) n)
sum_joined f a zero n = let none : a + 0 ≡ a = omega arith in let all : 0 + n ≡ n = omega arith in let same : sum_by f (range_with_len a (0 + n)) ≡ sum_by f (range_with_len (a + 0) n) = (λ i. sum_by f (range_with_len a (all i))) ∙ (λ i. sum_by f (range_with_len (sym none i) n)) in omega (arith, same)
sum_joined f a (suc m) n =
    let more : suc m + n ≡ suc (m + n) = omega arith in
    let next : (a + 1) + m ≡ a + suc m = omega arith in
    let rest = sum_joined f (a + 1) m n ∙ (λ i. sum_by f (range_with_len (a + 1) m) + sum_by f (range_with_len (next i) n)) in
    (λ i. sum_by f (range_with_len a (more i))) ∙ omega (arith, sum_by-cons f a (range_with_len (a + 1) (m + n)), sum_by-cons f a (range_with_len (a + 1) m), rest)

-- values that agree sum to the same
pub sum_shifted : (f g : ℕ → ℕ) (a b n : ℕ) → ((k : ℕ) → k < n → f (a + k) ≡ g (b + k)) → sum_by f (range_with_len a n) ≡ sum_by g (range_with_len b n)
sum_shifted f g a b zero agree = refl
sum_shifted f g a b (suc n) agree =
    let ea : a ≡ a + 0 = omega arith in
    let eb : b + 0 ≡ b = omega arith in
    let head : f a ≡ g b = ap f ea ∙ (agree 0 (omega arith) ∙ ap g eb) in
    let tail : (k : ℕ) → k < n → f ((a + 1) + k) ≡ g ((b + 1) + k) =
    λ k h. let da : (a + 1) + k ≡ a + (k + 1) = omega arith in let db : b + (k + 1) ≡ (b + 1) + k = omega arith in ap f da ∙ (agree (k + 1) (omega (arith, h)) ∙ ap g db) in
    omega (arith, sum_by-cons f a (range_with_len (a + 1) n), sum_by-cons g b (range_with_len (b + 1) n), head, sum_shifted f g (a + 1) (b + 1) n tail)

pub count_shifted : (p q : ℕ → Bool) (a b n : ℕ) → ((k : ℕ) → k < n → p (a + k) ≡ q (b + k)) → count_by p (range_with_len a n) ≡ count_by q (range_with_len b n)
count_shifted p q a b n agree = sum_shifted (one_of p) (one_of q) a b n (λ k h. ap (λ (x : Bool). cond {A = ℕ} x 1 0) (agree k h))

-- the elements of a list by their places
pub sum_listed : {X : Type 0} (f : ℕ → ℕ) (g : X → ℕ) (d : X) (a : ℕ) (xs : List X) → ((k : ℕ) → k < length xs → f (a + k) ≡ g (get_or xs k d)) → sum_by f (range_with_len a (length xs)) ≡ sum_by g xs
sum_listed f g d a [] agree = refl
sum_listed {X} f g d a (x ∷ xs) agree =
    let ea : a ≡ a + 0 = omega arith in
    let head : f a ≡ g x = ap f ea ∙ agree 0 (omega arith) in
    let tail : (k : ℕ) → k < length xs → f ((a + 1) + k) ≡ g (get_or xs k d) = λ k h. let da : (a + 1) + k ≡ a + suc k = omega arith in ap f da ∙ agree (suc k) (omega (arith, h)) in
    omega (arith, sum_by-cons f a (range_with_len (a + 1) (length xs)), sum_by-cons g x xs, head, sum_listed f g d (a + 1) xs tail)

pub count_listed : {X : Type 0} (p : ℕ → Bool) (q : X → Bool) (d : X) (xs : List X) → ((k : ℕ) → k < length xs → p k ≡ q (get_or xs k d)) → count_to p (length xs) ≡ count_by q xs
count_listed {X} p q d xs agree =
    sum_listed (one_of p) (one_of q) d 0 xs (λ k h. let start : 0 + k ≡ k = omega arith in ap (λ (x : Bool). cond {A = ℕ} x 1 0) (ap p start ∙ agree k h))

pub count_small : (p : ℕ → Bool) (n : ℕ) → count_to p n ≤ n
count_small p n = omega (arith, count_by-le-length p (range_with_len 0 n), length-range_with_len 0 n)

pub sum_small : (f : ℕ → ℕ) (most n : ℕ) → ((k : ℕ) → f k ≤ most) → sum_by f (range_with_len 0 n) ≤ n * most
sum_small f most n low = subst (λ m. sum_by f (range_with_len 0 n) ≤ m * most) (length-range_with_len 0 n) (sum_by-le f most (range_with_len 0 n) (λ k d h. low (get_or (range_with_len 0 n) k d)))
