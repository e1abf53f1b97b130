-- A test of which pattern splits most pairs of a set.
use Rattle.std.proofs.Common.{◌≡◌, ℕ, zero, suc, ◌<◌, subst, sym, arith, inl, inr}
use Rattle.std.specs.Prelude.{Bool, true, ◌&&◌, List, length, nat_lt, nat_le, ◌⊎◌}
use Rattle.std.proofs.lemmas.Bool.{ltb-true, leb-true}
use Rattle.net_model.specs.ClassTable.{ClassTable}
use Rattle.dict_rows.specs.AnswerTable.{Answers}
use Rattle.adaptive_planner.specs.Planned.{parted_pairs, PartsMost}
use Rattle.adaptive_tree.proofs.StepTests.{left_true, right_true}

abbrev pub all_below : (ℕ → Bool) → ℕ → Bool
all_below test zero = true
all_below test (suc n) = test n && all_below test n

last_or_below : (k n : ℕ) → k < suc n → (k ≡ n) ⊎ (k < n)
last_or_below k n low = grind (arith, low)

by_place : (test : ℕ → Bool) (n k : ℕ) → test n ≡ true → ((k < n) → test k ≡ true) → (k ≡ n) ⊎ (k < n) → test k ≡ true
by_place test n k last below (inl e) = subst (λ j. test j ≡ true) (sym e) last
by_place test n k last below (inr low) = below low

pub below_all : (test : ℕ → Bool) (n : ℕ) → all_below test n ≡ true → (k : ℕ) → k < n → test k ≡ true
below_all test zero e k low = absurd (omega (arith, low))
below_all test (suc n) e k low = by_place test n k (left_true (test n) (all_below test n) e) (below_all test n (right_true (test n) (all_below test n) e) k) (last_or_below k n low)

module _ (t : ClassTable) (table : Answers) (classes : List ℕ) (pattern : ℕ) where
  abbrev pub at_most : ℕ → Bool
  at_most other = nat_le (parted_pairs t table other classes) (parted_pairs t table pattern classes)

  abbrev pub fewer : ℕ → Bool
  fewer other = nat_lt (parted_pairs t table other classes) (parted_pairs t table pattern classes)

  pub parts_most : pattern < length table.rows → all_below at_most (length table.rows) ≡ true → all_below fewer pattern ≡ true → PartsMost t table classes pattern
  parts_most within most lowest = record {
    within = within;
    most = λ other low. leb-true _ _ (below_all at_most (length table.rows) most other low);
    lowest = λ other low. ltb-true _ _ (below_all fewer pattern lowest other low);
  }
