-- How many of the first numbers pass a test.
use Rattle.std.proofs.Common.{◌≡◌, ◌∙◌, ℕ, zero, suc, ◌+◌, ◌<◌, ◌≤◌, refl, ap, sym, arith, inl, inr}
use Rattle.std.specs.Prelude.{Bool, true, false, if◌then◌else◌, ◌⊎◌}

abbrev pub count_below : (ℕ → Bool) → ℕ → ℕ
count_below test zero = 0
count_below test (suc n) = (if test n then 1 else 0) + count_below test n

at_most_one : (b : Bool) → (if b then 1 else 0) ≤ 1
at_most_one true = omega arith
at_most_one false = omega arith

pub count_fits : (test : ℕ → Bool) (n : ℕ) → count_below test n ≤ n
count_fits test zero = omega arith
count_fits test (suc n) = omega (arith, at_most_one (test n), count_fits test n)

no_less : (a b : Bool) → (a ≡ true → b ≡ true) → (if a then 1 else 0) ≤ (if b then 1 else 0)
no_less false b more = omega arith
no_less true b more = rw (more refl) (omega arith)

count_more : (few many : ℕ → Bool) (n : ℕ) → ((k : ℕ) → few k ≡ true → many k ≡ true) → count_below few n ≤ count_below many n
count_more few many zero more = omega arith
count_more few many (suc n) more = omega (arith, no_less (few n) (many n) (more n), count_more few many n more)

last_or_below : (k n : ℕ) → k < suc n → (k ≡ n) ⊎ (k < n)
last_or_below k n low = grind (arith, low)

one_less : (a b : Bool) → a ≡ false → b ≡ true → (if a then 1 else 0) + 1 ≤ (if b then 1 else 0)
one_less a b e f = rw (e, f) (omega arith)

fewer_at : (few many : ℕ → Bool) (n p : ℕ) → ((k : ℕ) → few k ≡ true → many k ≡ true) → few p ≡ false → many p ≡ true
    → (p < n → few p ≡ false → many p ≡ true → count_below few n + 1 ≤ count_below many n) → (p ≡ n) ⊎ (p < n) → count_below few (suc n) + 1 ≤ count_below many (suc n)
fewer_at few many n p more fails holds below (inl here) =
    omega (arith, one_less (few n) (many n) (ap few (sym here) ∙ fails) (ap many (sym here) ∙ holds), count_more few many n more)
fewer_at few many n p more fails holds below (inr low) = omega (arith, no_less (few n) (many n) (more n), below low fails holds)

pub count_fewer : (few many : ℕ → Bool) (n p : ℕ) → ((k : ℕ) → few k ≡ true → many k ≡ true) → p < n → few p ≡ false → many p ≡ true → count_below few n + 1 ≤ count_below many n
count_fewer few many zero p more low fails holds = absurd (omega (arith, low))
count_fewer few many (suc n) p more low fails holds = fewer_at few many n p more fails holds (count_fewer few many n p more) (last_or_below p n low)
