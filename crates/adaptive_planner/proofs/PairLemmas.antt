-- Pairs of different numbers in a list.
use Rattle.std.proofs.Common.{◌≡◌, ◌≢◌, ◌∙◌, ℕ, ◌+◌, ◌*◌, ◌<◌, ◌≤◌, refl, ap, sym, arith}
use Rattle.std.specs.Prelude.{Bool, true, false, not, ◌==◌, if◌then◌else◌, List, [], ◌∷◌, ◌++◌, length, filter, count_by}
use Rattle.std.proofs.lemmas.Bool.{eqb-true, eqb-false, eq-eqb, ne_eqb}
use Rattle.std.proofs.lemmas.List.Sums.{count_by-le-length}
use Rattle.adaptive_planner.specs.Counting.{unequal_pairs, not_first}
use Rattle.adaptive_planner.proofs.OnePlan.{count_by-append, count_by-cons}

abbrev pub one_if : Bool → ℕ
one_if b = if b then 1 else 0

pub equal_sym : (x y : ℕ) → x == y ≡ (y == x)
equal_sym x y = by_case (x == y) refl
  where
    by_case : (b : Bool) → x == y ≡ b → x == y ≡ (y == x)
    by_case true e = e ∙ sym (eq-eqb y x (sym (eqb-true x y e)))
    by_case false e = e ∙ sym (ne_eqb y x (λ same. eqb-false x y e (sym same)))

pub count_push : (test : ℕ → Bool) (xs : List ℕ) (x : ℕ) → count_by test (xs ++ x ∷ []) ≡ count_by test xs + one_if (test x)
count_push test xs x = count_by-append test xs (x ∷ []) ∙ ap (λ n. count_by test xs + n) (let own : 0 + one_if (test x) ≡ one_if (test x) = omega arith in own)

pub count_push_yes : (test : ℕ → Bool) (xs : List ℕ) (x : ℕ) → test x ≡ true → count_by test (xs ++ x ∷ []) ≡ count_by test xs + 1
count_push_yes test xs x holds = count_push test xs x ∙ ap (λ b. count_by test xs + one_if b) holds

pub count_push_no : (test : ℕ → Bool) (xs : List ℕ) (x : ℕ) → test x ≡ false → count_by test (xs ++ x ∷ []) ≡ count_by test xs
count_push_no test xs x fails = let e : count_by test (xs ++ x ∷ []) ≡ count_by test xs + 0 = count_push test xs x ∙ ap (λ b. count_by test xs + one_if b) fails in omega (arith, e)

pub pairs_push : (xs : List ℕ) (y : ℕ) → unequal_pairs (xs ++ y ∷ []) ≡ unequal_pairs xs + count_by (λ x. not (x == y)) xs
pairs_push [] y = refl
pairs_push (x ∷ xs) y =
    omega (arith, count_push (λ z. not (x == z)) xs y, pairs_push xs y, count_by-cons (λ z. not (z == y)) x xs)

pub first_is_not : not_first 0 ≡ false
first_is_not = refl

pub not_first_yes : (n : ℕ) → 0 < n → not_first n ≡ true
not_first_yes n some = ap not (ne_eqb n 0 (λ e. omega (arith, e, some)))

-- the numbers that aren't 0 are those equal to a given one above 0, and the others
pub count_split : (n : ℕ) → 0 < n → (xs : List ℕ) → count_by (λ x. not (x == n)) (filter not_first xs) + count_by (λ x. x == n) xs ≡ count_by not_first xs
count_split n some [] = refl
count_split n some (x ∷ xs) = by_case (count_split n some xs) (x == 0) refl
  where
    by_number : count_by (λ y. not (y == n)) (filter not_first xs) + count_by (λ y. y == n) xs ≡ count_by not_first xs → x == 0 ≡ false → (b : Bool) → x == n ≡ b → count_by (λ y. not (y == n)) (x ∷ filter not_first xs) + count_by (λ y. y == n) (x ∷ xs) ≡ count_by not_first (x ∷ xs)
    by_number ih e b f =
        let one : one_if (not (x == n)) ≡ one_if (not b) = ap (λ c. one_if (not c)) f in
        let two : one_if (x == n) ≡ one_if b = ap one_if f in
        let three : one_if (not_first x) ≡ 1 = ap (λ c. one_if (not c)) e in
        let both : one_if (not b) + one_if b ≡ 1 = elim b as (λ c. one_if (not c) + one_if c ≡ 1) [ true ↦ refl | false ↦ refl ] in
        omega (arith, one, two, three, both, count_by-cons (λ y. not (y == n)) x (filter not_first xs), count_by-cons (λ y. y == n) x xs, count_by-cons not_first x xs, ih)

    by_case : count_by (λ y. not (y == n)) (filter not_first xs) + count_by (λ y. y == n) xs ≡ count_by not_first xs → (b : Bool) → x == 0 ≡ b → count_by (λ y. not (y == n)) (filter not_first (x ∷ xs)) + count_by (λ y. y == n) (x ∷ xs) ≡ count_by not_first (x ∷ xs)
    by_case ih true e =
        let zero_is : x ≡ 0 = eqb-true x 0 e in
        let none : one_if (x == n) ≡ 0 = ap one_if (ne_eqb x n (λ same. omega (arith, same, zero_is, some))) in
        let first : one_if (not_first x) ≡ 0 = ap (λ c. one_if (not c)) e in
        ap (λ c. count_by (λ y. not (y == n)) (if not c then x ∷ filter not_first xs else filter not_first xs) + count_by (λ y. y == n) (x ∷ xs)) e
        ∙ omega (arith, none, first, count_by-cons (λ y. y == n) x xs, count_by-cons not_first x xs, ih)
    by_case ih false e = ap (λ c. count_by (λ y. not (y == n)) (if not c then x ∷ filter not_first xs else filter not_first xs) + count_by (λ y. y == n) (x ∷ xs)) e ∙ by_number ih e (x == n) refl

-- the numbers that differ from a given one above 0 are all zeros and some of the others
count_unequal : (n : ℕ) → 0 < n → (xs : List ℕ) → count_by (λ x. not (n == x)) xs ≡ count_by (λ x. x == 0) xs + count_by (λ x. not (n == x)) (filter not_first xs)
count_unequal n some [] = refl
count_unequal n some (x ∷ xs) = by_case (count_unequal n some xs) (x == 0) refl
  where
    by_case : count_by (λ y. not (n == y)) xs ≡ count_by (λ y. y == 0) xs + count_by (λ y. not (n == y)) (filter not_first xs) → (b : Bool) → x == 0 ≡ b → count_by (λ y. not (n == y)) (x ∷ xs) ≡ count_by (λ y. y == 0) (x ∷ xs) + count_by (λ y. not (n == y)) (filter not_first (x ∷ xs))
    by_case ih true e =
        let zero_is : x ≡ 0 = eqb-true x 0 e in
        let other : one_if (not (n == x)) ≡ 1 = ap (λ c. one_if (not c)) (ne_eqb n x (λ same. omega (arith, same, zero_is, some))) in
        let first : one_if (x == 0) ≡ 1 = ap one_if e in
        omega (arith, other, first, count_by-cons (λ y. not (n == y)) x xs, count_by-cons (λ y. y == 0) x xs, ih)
        ∙ ap (λ c. count_by (λ y. y == 0) (x ∷ xs) + count_by (λ y. not (n == y)) (if not c then x ∷ filter not_first xs else filter not_first xs)) (sym e)
    by_case ih false e =
        let first : one_if (x == 0) ≡ 0 = ap one_if e in
        omega (arith, first, count_by-cons (λ y. not (n == y)) x xs, count_by-cons (λ y. not (n == y)) x (filter not_first xs), count_by-cons (λ y. y == 0) x xs, ih)
        ∙ ap (λ c. count_by (λ y. y == 0) (x ∷ xs) + count_by (λ y. not (n == y)) (if not c then x ∷ filter not_first xs else filter not_first xs)) (sym e)

pub zeros_and_others : (xs : List ℕ) → count_by not_first xs + count_by (λ x. x == 0) xs ≡ length xs
zeros_and_others [] = refl
zeros_and_others (x ∷ xs) =
    let both : one_if (not (x == 0)) + one_if (x == 0) ≡ 1 = elim (x == 0) as (λ c. one_if (not c) + one_if c ≡ 1) [ true ↦ refl | false ↦ refl ] in
    omega (arith, both, count_by-cons not_first x xs, count_by-cons (λ y. y == 0) x xs, zeros_and_others xs)

same_count : (test other : ℕ → Bool) → ((x : ℕ) → test x ≡ other x) → (xs : List ℕ) → count_by test xs ≡ count_by other xs
same_count test other same [] = refl
same_count test other same (x ∷ xs) = omega (arith, ap one_if (same x), count_by-cons test x xs, count_by-cons other x xs, same_count test other same xs)

-- pairs of a zero and another, and pairs of two others
pub pairs_split : (xs : List ℕ) → unequal_pairs xs ≡ count_by not_first xs * count_by (λ x. x == 0) xs + unequal_pairs (filter not_first xs)
pairs_split [] = refl
pairs_split (x ∷ xs) = by_case (pairs_split xs) (x == 0) refl
  where
    by_case : unequal_pairs xs ≡ count_by not_first xs * count_by (λ y. y == 0) xs + unequal_pairs (filter not_first xs) → (b : Bool) → x == 0 ≡ b → unequal_pairs (x ∷ xs) ≡ count_by not_first (x ∷ xs) * count_by (λ y. y == 0) (x ∷ xs) + unequal_pairs (filter not_first (x ∷ xs))
    by_case ih true e =
        let zero_is : x ≡ 0 = eqb-true x 0 e in
        let own : count_by (λ y. not (x == y)) xs ≡ count_by not_first xs = same_count (λ y. not (x == y)) not_first (λ y. ap not (ap (λ z. z == y) zero_is ∙ equal_sym 0 y)) xs in
        let t : count_by not_first (x ∷ xs) ≡ count_by not_first xs = (let i : one_if (not_first x) ≡ 0 = ap (λ c. one_if (not c)) e in omega (arith, i, count_by-cons not_first x xs)) in
        let z : count_by (λ y. y == 0) (x ∷ xs) ≡ count_by (λ y. y == 0) xs + 1 = (let i : one_if (x == 0) ≡ 1 = ap one_if e in omega (arith, i, count_by-cons (λ y. y == 0) x xs)) in
        omega (arith, own, ih)
        ∙ (ap (λ n. n + unequal_pairs (filter not_first xs)) (sym (λ i. t i * z i))
        ∙ ap (λ c. count_by not_first (x ∷ xs) * count_by (λ y. y == 0) (x ∷ xs) + unequal_pairs (if not c then x ∷ filter not_first xs else filter not_first xs)) (sym e))
    by_case ih false e =
        let some : 0 < x = (let ne : x ≢ 0 = eqb-false x 0 e in omega (arith, ne)) in
        let own = count_unequal x some xs in
        let t : count_by not_first (x ∷ xs) ≡ count_by not_first xs + 1 = (let i : one_if (not_first x) ≡ 1 = ap (λ c. one_if (not c)) e in omega (arith, i, count_by-cons not_first x xs)) in
        let z : count_by (λ y. y == 0) (x ∷ xs) ≡ count_by (λ y. y == 0) xs = (let i : one_if (x == 0) ≡ 0 = ap one_if e in omega (arith, i, count_by-cons (λ y. y == 0) x xs)) in
        omega (arith, own, ih)
        ∙ (ap (λ n. n + unequal_pairs (x ∷ filter not_first xs)) (sym (λ i. t i * z i))
        ∙ ap (λ c. count_by not_first (x ∷ xs) * count_by (λ y. y == 0) (x ∷ xs) + unequal_pairs (if not c then x ∷ filter not_first xs else filter not_first xs)) (sym e))

pub few_pairs : (xs : List ℕ) → unequal_pairs xs ≤ length xs * length xs
few_pairs [] = omega arith
few_pairs (x ∷ xs) = omega (arith, count_by-le-length (λ y. not (x == y)) xs, few_pairs xs)
