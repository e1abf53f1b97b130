-- Sums over the first numbers, and pairs of them that pass a test.
use Rattle.std.proofs.Common.{◌≡◌, ◌∙◌, ℕ, zero, suc, ◌+◌, ◌*◌, ◌<◌, ◌≤◌, Bool, true, false, not, cond, eqb, ◌&&◌, List, get_or, refl, sym, ap, subst, arith, inl, inr}
use Rattle.std.specs.Prelude.{sum_by, count_by}
use Rattle.std.specs.Bool.{beq}
use Rattle.std.specs.List.{range_with_len}
use Rattle.std.proofs.lemmas.Bool.{cases_Bool, eqb-true, eq-eqb}
use Rattle.std.proofs.lemmas.List.Sums.{sum_by_push}
use Rattle.std.specs.Cmp.Derive.{one_truth}
use Rattle.net_model.proofs.Ranges.{range_more}
use Rattle.samediff_dict.specs.PlaceGroups.{pairs_where, in_one, tells_apart}

-- the sum of the values at the numbers below a limit
unfoldable pub sum_to : (ℕ → ℕ) → ℕ → ℕ
sum_to f zero = 0
sum_to f (suc n) = sum_to f n + f n

pub sum_to_more : (f : ℕ → ℕ) (n : ℕ) → sum_to f (n + 1) ≡ sum_to f n + f n
unfolding sum_to
sum_to_more f n = let e : n + 1 ≡ suc n = omega arith in ap (sum_to f) e

pub sum_by-range : (f : ℕ → ℕ) (n : ℕ) → sum_by f (range_with_len 0 n) ≡ sum_to f n
unfolding sum_to
sum_by-range f zero = refl
sum_by-range f (suc n) =
    let e : suc n ≡ n + 1 = omega arith in
    ap (λ k. sum_by f (range_with_len 0 k)) e ∙ (ap (sum_by f) (range_more n) ∙ (sum_by_push f (range_with_len 0 n) n ∙ ap (λ s. s + f n) (sum_by-range f n)))

pub sum_to_where : (f g : ℕ → ℕ) (n : ℕ) → ((k : ℕ) → k < n → f k ≡ g k) → sum_to f n ≡ sum_to g n
unfolding sum_to
sum_to_where f g zero h = refl
sum_to_where f g (suc n) h = omega (arith, sum_to_where f g n (λ k l. h k (omega (arith, l))), h n (omega arith))

pub sum_to_both : (f g : ℕ → ℕ) (n : ℕ) → sum_to (λ k. f k + g k) n ≡ sum_to f n + sum_to g n
unfolding sum_to
sum_to_both f g zero = refl
sum_to_both f g (suc n) = omega (arith, sum_to_both f g n)

pub sum_to-le : (f g : ℕ → ℕ) (n : ℕ) → ((k : ℕ) → k < n → f k ≤ g k) → sum_to f n ≤ sum_to g n
unfolding sum_to
sum_to-le f g zero h = omega arith
sum_to-le f g (suc n) h = omega (arith, sum_to-le f g n (λ k l. h k (omega (arith, l))), h n (omega arith))

pub sum_to-zero : (f : ℕ → ℕ) (n : ℕ) → ((k : ℕ) → k < n → f k ≡ 0) → sum_to f n ≡ 0
unfolding sum_to
sum_to-zero f zero h = refl
sum_to-zero f (suc n) h = omega (arith, sum_to-zero f n (λ k l. h k (omega (arith, l))), h n (omega arith))

pub sum_to-few : (f : ℕ → ℕ) (m n : ℕ) → ((k : ℕ) → k < n → f k ≤ m) → sum_to f n ≤ n * m
unfolding sum_to
sum_to-few f m zero h = omega arith
sum_to-few f m (suc n) h = omega (arith, sum_to-few f m n (λ k l. h k (omega (arith, l))), h n (omega arith))

-- ---- pairs, the lower number first

abbrev pub one_if : Bool → ℕ
one_if b = cond b 1 0

abbrev pub pairs_to : ℕ → (ℕ → ℕ → Bool) → ℕ
pairs_to n p = sum_to (λ high. sum_to (λ low. one_if (p low high)) high) n

pub pairs_are : (n : ℕ) (p : ℕ → ℕ → Bool) → pairs_where n p ≡ pairs_to n p
pairs_are n p =
    sum_by-range (λ high. count_by (λ low. p low high) (range_with_len 0 high)) n
    ∙ sum_to_where (λ high. count_by (λ low. p low high) (range_with_len 0 high)) (λ high. sum_to (λ low. one_if (p low high)) high) n (λ high h. sum_by-range (λ low. one_if (p low high)) high)

pub pairs_same : (n : ℕ) (p q : ℕ → ℕ → Bool) → ((low high : ℕ) → low < high → high < n → p low high ≡ q low high) → pairs_to n p ≡ pairs_to n q
pairs_same n p q same =
    sum_to_where (λ high. sum_to (λ low. one_if (p low high)) high) (λ high. sum_to (λ low. one_if (q low high)) high) n
    (λ high h. sum_to_where (λ low. one_if (p low high)) (λ low. one_if (q low high)) high (λ low l. ap one_if (same low high l h)))

pub pairs_both : (n : ℕ) (p q r : ℕ → ℕ → Bool) → ((low high : ℕ) → low < high → high < n → one_if (p low high) + one_if (q low high) ≡ one_if (r low high)) → pairs_to n p + pairs_to n q ≡ pairs_to n r
pairs_both n p q r same =
    sym (sum_to_both (λ high. sum_to (λ low. one_if (p low high)) high) (λ high. sum_to (λ low. one_if (q low high)) high) n)
    ∙ sum_to_where (λ high. sum_to (λ low. one_if (p low high)) high + sum_to (λ low. one_if (q low high)) high) (λ high. sum_to (λ low. one_if (r low high)) high) n
    (λ high h. sym (sum_to_both (λ low. one_if (p low high)) (λ low. one_if (q low high)) high)
    ∙ sum_to_where (λ low. one_if (p low high) + one_if (q low high)) (λ low. one_if (r low high)) high (λ low l. same low high l h))

one_if-le : (b c : Bool) → (b ≡ true → c ≡ true) → one_if b ≤ one_if c
one_if-le false c h = omega arith
one_if-le true c h = subst (λ x. 1 ≤ one_if x) (sym (h refl)) (omega arith)

pub one_if-one : (b : Bool) → one_if b ≤ 1
one_if-one true = omega arith
one_if-one false = omega arith

pub pairs-le : (n : ℕ) (p q : ℕ → ℕ → Bool) → ((low high : ℕ) → low < high → high < n → p low high ≡ true → q low high ≡ true) → pairs_to n p ≤ pairs_to n q
pairs-le n p q more =
    sum_to-le (λ high. sum_to (λ low. one_if (p low high)) high) (λ high. sum_to (λ low. one_if (q low high)) high) n
    (λ high h. sum_to-le (λ low. one_if (p low high)) (λ low. one_if (q low high)) high (λ low l. one_if-le (p low high) (q low high) (more low high l h)))

pub pairs-few : (n : ℕ) (p : ℕ → ℕ → Bool) → pairs_to n p ≤ n * n
pairs-few n p =
    sum_to-few (λ high. sum_to (λ low. one_if (p low high)) high) n n
    (λ high h. let few = sum_to-few (λ low. one_if (p low high)) 1 high (λ low l. one_if-one (p low high)) in omega (arith, few, h))

-- ---- all ordered pairs

-- If `D` is 0 for each number with itself, the sum over all ordered pairs is the sum over pairs of `D` in both orders.
pub square_halves : (D : ℕ → ℕ → ℕ) (n : ℕ) → ((k : ℕ) → D k k ≡ 0) → sum_to (λ i. sum_to (D i) n) n ≡ sum_to (λ high. sum_to (λ low. D low high + D high low) high) n
unfolding sum_to
square_halves D zero none = refl
square_halves D (suc n) none =
    let rows : sum_to (λ i. sum_to (D i) n + D i n) n ≡ sum_to (λ i. sum_to (D i) n) n + sum_to (λ i. D i n) n = sum_to_both (λ i. sum_to (D i) n) (λ i. D i n) n in
    let last : sum_to (λ low. D low n + D n low) n ≡ sum_to (λ low. D low n) n + sum_to (D n) n = sum_to_both (λ low. D low n) (D n) n in
    omega (arith, rows, last, square_halves D n none, none n)

-- ---- what a candidate tells apart

halves : (a b g : Bool) → one_if (a && (g && not b)) + one_if (b && (g && not a)) ≡ one_if (g && not (beq a b))
halves true true true = refl
halves true true false = refl
halves true false true = refl
halves true false false = refl
halves false true true = refl
halves false true false = refl
halves false false true = refl
halves false false false = refl

none_itself : (a g : Bool) → one_if (a && (g && not a)) ≡ 0
none_itself true true = refl
none_itself true false = refl
none_itself false g = refl

eqb_back : (a b : ℕ) → eqb a b ≡ eqb b a
eqb_back a b = one_truth (eqb a b) (eqb b a) (λ e. eq-eqb b a (sym (eqb-true a b e))) (λ e. eq-eqb a b (sym (eqb-true b a e)))

module _ (group_of answers : List ℕ) (n : ℕ) where
  -- how many places of its group answer otherwise than a place
  abbrev pub others_of : ℕ → ℕ
  others_of place = sum_to (λ other. one_if (eqb (get_or group_of other 0) (get_or group_of place 0) && not (eqb (get_or answers other 0) (get_or answers place 0)))) n

  module _ (answer : ℕ) where
    abbrev answers_it : ℕ → Bool
    answers_it place = eqb (get_or answers place 0) answer

    abbrev told : ℕ → ℕ → ℕ
    told place other = one_if (answers_it place && (eqb (get_or group_of other 0) (get_or group_of place 0) && not (answers_it other)))

    one_row : (place : ℕ) → cond (answers_it place) (others_of place) 0 ≡ sum_to (told place) n
    one_row place = elim (cases_Bool (answers_it place)) [
      | inl so ↦
          ap (λ b. cond b (others_of place) 0) so
          ∙ sum_to_where (λ other. one_if (eqb (get_or group_of other 0) (get_or group_of place 0) && not (eqb (get_or answers other 0) (get_or answers place 0)))) (told place) n
          (λ other h. ap (λ a. one_if (eqb (get_or group_of other 0) (get_or group_of place 0) && not (eqb (get_or answers other 0) a))) (eqb-true (get_or answers place 0) answer so)
          ∙ sym (ap (λ b. one_if (b && (eqb (get_or group_of other 0) (get_or group_of place 0) && not (answers_it other)))) so))
      | inr not_so ↦
          ap (λ b. cond b (others_of place) 0) not_so
          ∙ sym (sum_to-zero (told place) n (λ other h. ap (λ b. one_if (b && (eqb (get_or group_of other 0) (get_or group_of place 0) && not (answers_it other)))) not_so))
    ]

    -- place by place, those that answer it tell the others of their groups apart
    pub gain_by_place : sum_to (λ place. cond (answers_it place) (others_of place) 0) n ≡ pairs_to n (tells_apart (in_one group_of) answers answer)
    gain_by_place =
        sum_to_where (λ place. cond (answers_it place) (others_of place) 0) (λ place. sum_to (told place) n) n (λ place h. one_row place)
        ∙ (square_halves told n (λ k. none_itself (answers_it k) (eqb (get_or group_of k 0) (get_or group_of k 0)))
        ∙ sum_to_where (λ high. sum_to (λ low. told low high + told high low) high) (λ high. sum_to (λ low. one_if (tells_apart (in_one group_of) answers answer low high)) high) n
        (λ high h. sum_to_where (λ low. told low high + told high low) (λ low. one_if (tells_apart (in_one group_of) answers answer low high)) high
        (λ low l. ap (λ g. one_if (answers_it low && (g && not (answers_it high))) + told high low) (eqb_back (get_or group_of high 0) (get_or group_of low 0))
        ∙ halves (answers_it low) (answers_it high) (eqb (get_or group_of low 0) (get_or group_of high 0)))))
