-- Bits: equality, and inversion, which is exclusive or.
use Rattle.std.proofs.Common.{◌≡◌, refl, sym, ap, ◌∙◌, subst, ℕ, ◌+◌, ◌%◌, arith}
use Rattle.std.specs.Prelude.{Bool, true, false, not, List, ◌∷◌, ◌==◌, count_by, if◌then◌else◌}
use Rattle.std.proofs.lemmas.Bool.Decides.{nat_tests}
use Rattle.std.proofs.lemmas.List.Sums.{sum_by-cons}
use Rattle.net_model.specs.Gate.{odd_ones, inverted}

-- whether the two bits are equal
abbrev pub holds : Bool → Bool → Bool
holds y b = if y then b else not b

pub holds-is : (y b : Bool) → holds y b ≡ true → y ≡ b
holds-is true b e = sym e
holds-is false true e = cc
holds-is false false e = refl

holds-same : (b : Bool) → holds b b ≡ true
holds-same true = refl
holds-same false = refl

pub is-holds : (y b : Bool) → y ≡ b → holds y b ≡ true
is-holds y b e = subst (λ x. holds y x ≡ true) e (holds-same y)

pub inverted-false : (a : Bool) → inverted a false ≡ a
inverted-false true = refl
inverted-false false = refl

pub inverted-assoc : (a b c : Bool) → inverted (inverted a b) c ≡ inverted a (inverted b c)
inverted-assoc true true true = refl
inverted-assoc true true false = refl
inverted-assoc true false true = refl
inverted-assoc true false false = refl
inverted-assoc false b c = refl

pub inverted-inner : (a b c : Bool) → inverted a (inverted b c) ≡ inverted b (inverted a c)
inverted-inner true true true = refl
inverted-inner true true false = refl
inverted-inner true false c = refl
inverted-inner false true c = refl
inverted-inner false false c = refl

pub inverted_back : (p v o : Bool) → inverted p v ≡ o → v ≡ inverted p o
inverted_back true true true e = cc
inverted_back true true false e = refl
inverted_back true false true e = refl
inverted_back true false false e = cc
inverted_back false v o e = e

pub inverted_on : (p v o : Bool) → v ≡ inverted p o → inverted p v ≡ o
inverted_on p v o e = sym (inverted_back p o v (sym e))

next_odd : (n : ℕ) → ((1 + n) % 2 == 1) ≡ not (n % 2 == 1)
next_odd n = grind (arith, nat_tests)

-- one more element, which counts if it passes the test
pub odd_count-cons : {A : Type 0} (test : A → Bool) (x : A) (xs : List A) → (count_by test (x ∷ xs) % 2 == 1) ≡ inverted (test x) (count_by test xs % 2 == 1)
odd_count-cons {A = A} test x xs = ap (λ n. n % 2 == 1) (sum_by-cons (λ (y : A). if test y then 1 else 0) x xs) ∙ by (test x)
  where
    by : (b : Bool) → (((if b then 1 else 0) + count_by test xs) % 2 == 1) ≡ inverted b (count_by test xs % 2 == 1)
    by true = next_odd (count_by test xs)
    by false = let e : 0 + count_by test xs ≡ count_by test xs = omega arith in ap (λ n. n % 2 == 1) e

pub odd_ones-cons : (b : Bool) (bits : List Bool) → odd_ones (b ∷ bits) ≡ inverted b (odd_ones bits)
odd_ones-cons b bits = odd_count-cons (λ (x : Bool). x) b bits
