-- Sets of classes that are told apart, and their branches.
use Rattle.std.proofs.Common.{◌≡◌, ◌∙◌, ℕ, zero, suc, ◌+◌, ◌-◌, ◌*◌, ◌<◌, ◌≤◌, ◌^◌, refl, ap, sym, subst, arith, cond}
use Rattle.std.specs.Prelude.{Bool, true, false, not, ◌==◌, List, [], ◌∷◌, map, length, filter, sum_by, slice_index, All}
use Rattle.std.specs.List.{range_with_len, AllByRecursion}
use Rattle.std.proofs.lemmas.Bool.{ne_eqb}
use Rattle.std.proofs.lemmas.List.Elements.{All-from_recursion}
use Rattle.std.proofs.lemmas.List.Sums.{sum_by-append}
use Rattle.std.proofs.lemmas.List.Filters.{length-filter_both}
use Rattle.adaptive_planner.specs.declared.class_numbers.ClassNumbers.{ClassNumbers}
use Rattle.adaptive_planner.specs.declared.parting.Branch.{Branch}
use Rattle.adaptive_planner.specs.Numbering.{ArePairTold, AreAllTold, class_number}
use Rattle.adaptive_planner.specs.Counting.{IsMostParting, unequal_pairs}
use Rattle.adaptive_planner.specs.Parting.{AreSetParts, classes_of, branch_numbers}
use Rattle.adaptive_planner.specs.Planning.{AreSetTold, IsToldSet, IsToldBranch}
use Rattle.adaptive_planner.proofs.OnePlan.{count_by-cons}
use Rattle.adaptive_planner.proofs.PairLemmas.{one_if}
use Rattle.adaptive_planner.proofs.SomePlan.{filter_all, range_all}

module _ (c : ClassNumbers) where
  filter_told : (keep : ℕ → Bool) (xs : List ℕ) → AreSetTold c xs → AreSetTold c (filter keep xs)
  filter_told keep [] told = tt
  filter_told keep (x ∷ xs) told = by_keep (keep x) (filter_told keep xs told.1)
    where
      by_keep : (b : Bool) → AreSetTold c (filter keep xs) → AreSetTold c (cond b (x ∷ filter keep xs) (filter keep xs))
      by_keep true rest = (filter_all (ArePairTold c x) keep xs told.0, rest)
      by_keep false rest = rest

  range_told : AreAllTold c → (first n : ℕ) → first + n ≤ length c.own.items → AreSetTold c (range_with_len first n)
  range_told told first zero fits = tt
  range_told told first (suc n) fits =
      (range_all (ArePairTold c first) (first + 1) n (λ k low high. told.apart first k (omega (arith, fits)) (omega (arith, high, fits)) (λ e. omega (arith, low, e))), range_told told (first + 1) n (omega (arith, fits)))

  range_long : (first n : ℕ) → length (range_with_len first n) ≡ n
  range_long first zero = refl
  range_long first (suc n) = ap suc (range_long (first + 1) n)

  pub all_told : AreAllTold c → length c.own.items < 2 ^ 32 → IsToldSet c (range_with_len 0 (length c.own.items))
  all_told told few = record {
    some = omega (arith, told.class, range_long 0 (length c.own.items));
    known = range_all (λ class. class < length c.own.items) 0 (length c.own.items) (λ k low high. omega (arith, high));
    few = omega (arith, few, range_long 0 (length c.own.items));
    told = range_told told 0 (length c.own.items) (omega arith);
  }

  fewer_kept : (keep : ℕ → Bool) (xs : List ℕ) → length (filter keep xs) + length (filter (λ x. not (keep x)) xs) ≡ length xs
  fewer_kept keep xs = length-filter_both keep (λ x. not (keep x)) (λ x. refl) xs

  -- what holds for a set that may be empty
  record IsPart (xs : List ℕ) : Type 0 where
    known : AllByRecursion (λ class. class < length c.own.items) xs
    few : length xs < 2 ^ 32
    told : AreSetTold c xs

  kept_part : (keep : ℕ → Bool) (xs : List ℕ) → IsPart xs → IsPart (filter keep xs)
  kept_part keep xs is = record {
    known = filter_all (λ class. class < length c.own.items) keep xs is.known;
    few = omega (arith, is.few, fewer_kept keep xs);
    told = filter_told keep xs is.told;
  }

  tail_part : (x : ℕ) (xs : List ℕ) → IsPart (x ∷ xs) → IsPart xs
  tail_part x xs is = record { known = is.known.1; few = omega (arith, is.few); told = is.told.1 }

  -- the first branch's set
  first_set : (keep : ℕ → Bool) (x : ℕ) (xs : List ℕ) → IsPart (x ∷ xs) → IsToldSet c (x ∷ filter keep xs)
  first_set keep x xs is = record {
    some = omega arith;
    known = (is.known.0, filter_all (λ class. class < length c.own.items) keep xs is.known.1);
    few = omega (arith, is.few, fewer_kept keep xs);
    told = (filter_all (ArePairTold c x) keep xs is.told.0, filter_told keep xs is.told.1);
  }

  module _ (pattern : ℕ) (within : pattern < length c.firsts.items) where
    parts_are_told : (bs : List Branch) (xs : List ℕ) → AreSetParts (class_number c pattern) pattern xs bs → IsPart xs → ((j : ℕ) → j < length bs → slice_index (branch_numbers bs) j < length c.patterns.items) → AllByRecursion (IsToldBranch c) bs
    parts_are_told [] xs parts is known = tt
    parts_are_told (b ∷ bs) [] parts is known = absurd parts
    parts_are_told (b ∷ bs) (x ∷ xs) parts is known = (
      record {
        pattern = omega (arith, parts.0, within);
        number = known 0 (omega arith);
        set = subst (IsToldSet c) (sym parts.2) (first_set (λ o. class_number c pattern x == class_number c pattern o) x xs is);
      },
      parts_are_told bs (filter (λ o. not (class_number c pattern x == class_number c pattern o)) xs) parts.3 (kept_part (λ o. not (class_number c pattern x == class_number c pattern o)) xs (tail_part x xs is)) (λ j h. known (suc j) (omega (arith, h))),
    )

    pub parts_told : (bs : List Branch) (xs : List ℕ) → AreSetParts (class_number c pattern) pattern xs bs → IsToldSet c xs → ((j : ℕ) → j < length bs → slice_index (branch_numbers bs) j < length c.patterns.items) → AllByRecursion (IsToldBranch c) bs
    parts_told bs xs parts is known = parts_are_told bs xs parts (record { known = is.known; few = is.few; told = is.told }) known

  pub sum_cons : (b : Branch) (bs : List Branch) → sum_by (λ (d : Branch). 2 * length (classes_of d) - 1) (b ∷ bs) ≡ (2 * length (classes_of b) - 1) + sum_by (λ (d : Branch). 2 * length (classes_of d) - 1) bs
  sum_cons b bs = sum_by-append (λ (d : Branch). 2 * length (classes_of d) - 1) (b ∷ []) bs ∙ ap (λ n. n + sum_by (λ (d : Branch). 2 * length (classes_of d) - 1) bs) (let e : 0 + (2 * length (classes_of b) - 1) ≡ 2 * length (classes_of b) - 1 = omega arith in e)

  pub parts_nodes : (f : ℕ → ℕ) (pattern : ℕ) (bs : List Branch) (xs : List ℕ) → AreSetParts f pattern xs bs → sum_by (λ (d : Branch). 2 * length (classes_of d) - 1) bs + length bs ≡ 2 * length xs
  parts_nodes f pattern [] [] parts = refl
  parts_nodes f pattern [] (x ∷ xs) parts = absurd parts
  parts_nodes f pattern (b ∷ bs) [] parts = absurd parts
  parts_nodes f pattern (b ∷ bs) (x ∷ xs) parts =
      omega (arith, sum_cons b bs, ap length parts.2, fewer_kept (λ o. f x == f o) xs, parts_nodes f pattern bs (filter (λ o. not (f x == f o)) xs) parts.3)

  -- ---- a pattern that splits most pairs splits one

  pub some_parted_pair : (xs : List ℕ) (pattern : ℕ) → IsToldSet c xs → 1 < length xs → IsMostParting c xs pattern → 0 < unequal_pairs (map (class_number c pattern) xs)
  some_parted_pair [] pattern is several most = absurd (omega (arith, several))
  some_parted_pair (x ∷ []) pattern is several most = absurd (omega (arith, several))
  some_parted_pair (x ∷ y ∷ xs) pattern is several most =
      let told : ArePairTold c x y = is.told.0.0 in
      let f : ℕ → ℕ = class_number c told.pattern in
      let one : one_if (not (f x == f y)) ≡ 1 = ap (λ b. one_if (not b)) (ne_eqb (f x) (f y) told.differ) in
      omega (arith, one, most.most told.pattern told.within, count_by-cons (λ n. not (f x == n)) (f y) (map f xs))

  pub some_pattern : (xs : List ℕ) → IsToldSet c xs → 1 < length xs → 0 < length c.firsts.items
  some_pattern [] is several = absurd (omega (arith, several))
  some_pattern (x ∷ []) is several = absurd (omega (arith, several))
  some_pattern (x ∷ y ∷ xs) is several = let told : ArePairTold c x y = is.told.0.0 in omega (arith, told.within)

  pub set_known : (xs : List ℕ) → IsToldSet c xs → All (λ class. class < length c.own.items) xs
  set_known xs is = All-from_recursion (λ class. class < length c.own.items) xs is.known
