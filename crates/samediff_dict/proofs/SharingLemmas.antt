-- Places that aren't alone in their groups.
use Rattle.std.proofs.Common.{◌≡◌, ◌≢◌, ◌∙◌, ℕ, zero, suc, ◌+◌, ◌<◌, ◌≤◌, Bool, true, false, cond, eqb, List, [], ◌∷◌, ◌++◌, length, get_or, refl, sym, ap, arith, inl, inr}
use Rattle.std.specs.Prelude.{nat_lt, filter, All, AllPairs, Contains}
use Rattle.std.specs.List.{range_with_len}
use Rattle.std.proofs.lemmas.Bool.{cases_eq, cases_order, eq-eqb}
use Rattle.std.proofs.lemmas.Bool.Decides.{nat_tests}
use Rattle.std.proofs.lemmas.List.{append-nil}
use Rattle.std.proofs.lemmas.List.Elements.{All-filter}
use Rattle.std.proofs.lemmas.List.Kept.{AllPairs-filter}
use Rattle.net_model.proofs.Elements.{Contains-filter}
use Rattle.net_model.proofs.Ranges.{filter-range_more}
use Rattle.class_refine.proofs.Ranges.{range_ascends, range_below, range-contains}
use Rattle.samediff_dict.specs.PlaceGroups.{is_shared, size_to}
use Rattle.samediff_dict.proofs.PairLemmas.{sum_to, one_if}
use Rattle.samediff_dict.proofs.GainLemmas.{size_is}

-- ---- the first numbers that pass a test

pub filter_with : (test : ℕ → Bool) (n : ℕ) → test n ≡ true → filter test (range_with_len 0 (n + 1)) ≡ filter test (range_with_len 0 n) ++ n ∷ []
filter_with test n so = filter-range_more test n ∙ ap (λ b. filter test (range_with_len 0 n) ++ cond b (n ∷ []) []) so

pub filter_without : (test : ℕ → Bool) (n : ℕ) → test n ≡ false → filter test (range_with_len 0 (n + 1)) ≡ filter test (range_with_len 0 n)
filter_without test n not_so = filter-range_more test n ∙ (ap (λ b. filter test (range_with_len 0 n) ++ cond b (n ∷ []) []) not_so ∙ append-nil (filter test (range_with_len 0 n)))

pub filter_ascends : (test : ℕ → Bool) (n : ℕ) → AllPairs (λ low high. low < high) (filter test (range_with_len 0 n))
filter_ascends test n = AllPairs-filter (λ (low high : ℕ). low < high) test (range_with_len 0 n) (range_ascends n)

pub filter_below : (test : ℕ → Bool) (n : ℕ) → All (λ k. k < n) (filter test (range_with_len 0 n))
filter_below test n = All-filter test (λ k. k < n) (range_with_len 0 n) (range_below n)

pub filter-contains : (test : ℕ → Bool) (n k : ℕ) → k < n → test k ≡ true → Contains (filter test (range_with_len 0 n)) k
filter-contains test n k h so = Contains-filter test (range_with_len 0 n) k (range-contains n k h) so

-- ---- places of one group

sum_to_has : (f : ℕ → ℕ) (n k : ℕ) → k < n → sum_to f k + f k ≤ sum_to f n
unfolding sum_to
sum_to_has f zero k h = absurd (omega (arith, h))
sum_to_has f (suc n) k h =
    elim (cases_eq k n) [
      | inl e ↦ let same : sum_to f k + f k ≡ sum_to f n + f n = ap (λ j. sum_to f j + f j) e in omega (arith, same)
      | inr ne ↦ let earlier : k < n = omega (arith, h, ne) in omega (arith, sum_to_has f n k earlier)
    ]

two_of : (f : ℕ → ℕ) (n low high : ℕ) → low < high → high < n → f low ≡ 1 → f high ≡ 1 → 1 < sum_to f n
two_of f n low high l h one other = omega (arith, sum_to_has f high low l, sum_to_has f n high h, one, other)

shared_by : (group_of : List ℕ) (low high group : ℕ) → low < high → high < length group_of → get_or group_of low 0 ≡ group → get_or group_of high 0 ≡ group → nat_lt 1 (size_to group_of (length group_of) group) ≡ true
shared_by group_of low high group l h one other =
    let f : ℕ → ℕ = λ place. one_if (eqb (get_or group_of place 0) group) in
    let many : 1 < size_to group_of (length group_of) group =
    omega (arith, size_is group_of (length group_of) group, two_of f (length group_of) low high l h (ap one_if (eq-eqb (get_or group_of low 0) group one)) (ap one_if (eq-eqb (get_or group_of high 0) group other))) in
    grind (arith, many, nat_tests)

-- a place that has another of its group isn't alone
pub shared_with : (group_of : List ℕ) (place other : ℕ) → place ≢ other → place < length group_of → other < length group_of → get_or group_of place 0 ≡ get_or group_of other 0 → is_shared group_of place ≡ true
shared_with group_of place other ne h ho same =
    elim (cases_order place other) [
      | inl e ↦ absurd (ne e)
      | inr rest ↦ elim rest [
        | inl less ↦ shared_by group_of place other (get_or group_of place 0) less ho refl (sym same)
        | inr more ↦ shared_by group_of other place (get_or group_of place 0) more h (sym same) refl
      ]
    ]
