-- The set that the digits of a `PairSet` mean, and that the set gives the digits back.
use Rattle.std.specs.Prelude.{◌≡◌, ℕ, zero, suc, ◌+◌, ◌*◌, ◌/◌, ◌%◌, ◌<◌, Bool, true, ◌==◌, ◌&&◌, cond}
use Rattle.std.proofs.Common.{refl, arith, inl, inr}
use Rattle.std.proofs.lemmas.Bool.{and_parts, cases_lt, eqb-true}
use Rattle.pair_sets.specs.declared.pair_set.PairSet.TheInside.{Inside}
use Rattle.pair_sets.specs.PairSet.{PairSet}

-- the set whose pairs are the binary digits of a number
abbrev pub set_with_number : ℕ → PairSet
set_with_number n = record { both_zero = n % 2 == 1; zero_one = n / 2 % 2 == 1; one_zero = n / 4 % 2 == 1; both_one = n / 8 % 2 == 1 }

-- the number whose binary digits are the pairs of a set
abbrev pub number_of : PairSet → ℕ
number_of s = (cond s.both_zero 1 0 + 8 * cond s.both_one 1 0) + (2 * cond s.zero_one 1 0 + 4 * cond s.one_zero 1 0)

abbrev pub pair_set_of : Inside → PairSet
pair_set_of a = set_with_number a.digits

abbrev pub fields_of : PairSet → Inside
fields_of s = record { digits = number_of s }

-- whether the test passes each number below the other
unfoldable passes_below : (ℕ → Bool) → ℕ → Bool
passes_below test zero = true
passes_below test (suc n) = test n && passes_below test n

passes : (test : ℕ → Bool) (n k : ℕ) → passes_below test n ≡ true → k < n → test k ≡ true
unfolding passes_below
passes test zero k h below = absurd (omega arith)
passes test (suc n) k h below =
    let parts = and_parts (test n) (passes_below test n) h in
    elim (cases_lt k n) [
      | inl less ↦ passes test n k parts.1 less
      | inr top ↦ let same : k ≡ n = omega arith in rw same parts.0
    ]

all_again : passes_below (λ n. number_of (set_with_number n) == n) 16 ≡ true
unfolding passes_below
all_again = refl

pub number_again : (n : ℕ) → n < 16 → number_of (set_with_number n) ≡ n
number_again n h = eqb-true (number_of (set_with_number n)) n (passes (λ k. number_of (set_with_number k) == k) 16 n all_again h)

pub fields_again : (a : Inside) → a.digits < 16 → fields_of (pair_set_of a) ≡ a
fields_again a h = λ i. record { digits = number_again a.digits h i }
