-- Sums of sums, and double sums by rows and by columns.
use Rattle.std.proofs.Common.{◌≡◌, ℕ, ◌+◌, List, [], ◌∷◌, refl, sym, arith}
use Rattle.std.specs.Prelude.{sum_by}
use Rattle.std.proofs.lemmas.List.Sums.{sum_by-cons}

pub sum_added : {X : Type 0} (f g : X → ℕ) (xs : List X) → sum_by (λ x. f x + g x) xs ≡ sum_by f xs + sum_by g xs
sum_added f g [] = refl
sum_added f g (x ∷ xs) = omega (arith, sum_by-cons (λ x. f x + g x) x xs, sum_by-cons f x xs, sum_by-cons g x xs, sum_added f g xs)

pub sum_zeros : {X : Type 0} (xs : List X) → sum_by (λ x. 0) xs ≡ 0
sum_zeros [] = refl
sum_zeros (x ∷ xs) = omega (arith, sum_by-cons (λ x. 0) x xs, sum_zeros xs)

-- a double sum by rows is the sum by columns
pub sum_swapped : {X Y : Type 0} (f : X → Y → ℕ) (xs : List X) (ys : List Y) → sum_by (λ x. sum_by (f x) ys) xs ≡ sum_by (λ y. sum_by (λ x. f x y) xs) ys
sum_swapped f [] ys = sym (sum_zeros ys)
sum_swapped f (x ∷ xs) ys =
    let columns : sum_by (λ y. sum_by (λ z. f z y) (x ∷ xs)) ys ≡ sum_by (λ y. f x y + sum_by (λ z. f z y) xs) ys = λ i. sum_by (λ y. sum_by-cons (λ z. f z y) x xs i) ys in
    omega (arith, sum_by-cons (λ z. sum_by (f z) ys) x xs, columns, sum_added (f x) (λ y. sum_by (λ z. f z y) xs) ys, sum_swapped f xs ys)
