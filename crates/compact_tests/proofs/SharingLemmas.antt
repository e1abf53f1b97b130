-- Numbers that aren't alone in their groups.
use Rattle.std.proofs.Common.{◌≡◌, ◌≢◌, ◌∙◌, ℕ, ◌+◌, ◌<◌, ◌≤◌, inl, inr, Bool, true, false, cond, List, [], ◌∷◌, ◌++◌, length, get_or, filter, sym, ap, subst, arith}
use Rattle.std.specs.Prelude.{Contains}
use Rattle.std.specs.List.{range_with_len}
use Rattle.std.proofs.lemmas.Bool.{cases_eq, lt-ltb}
use Rattle.std.proofs.lemmas.List.{get_or_default, append-nil}
use Rattle.std.proofs.lemmas.List.Elements.{All-filter}
use Rattle.std.proofs.lemmas.List.FromFn.{length-range_with_len}
use Rattle.std.proofs.lemmas.List.Kept.{IsStrictlyIncreasing-filter, AllPairs-filter}
use Rattle.net_model.proofs.Elements.{Contains-filter, length-filter-le}
use Rattle.net_model.proofs.Ranges.{filter-range_more}
use Rattle.net_model.specs.ClassTable.{ClassTable, class_at, class_count, members, number_range}
use Rattle.class_refine.specs.Fields.{IsWhole}
use Rattle.class_refine.specs.CutIn.{AreClassesOf, AreAlikeElsewhere}
use Rattle.class_refine.proofs.Pieces.{members-contains}
use Rattle.class_refine.proofs.Ranges.{range_below, range_ascends, range-contains}
use Rattle.compact_tests.specs.Sharing.{has_two, shared_groups, sharing_numbers, ListsSharing}

-- ---- one number more

pub passes_more : (p : ℕ → Bool) (n : ℕ) (old new : List ℕ) → old ≡ filter p (range_with_len 0 n) → p n ≡ true → new ≡ old ++ n ∷ [] → new ≡ filter p (range_with_len 0 (n + 1))
passes_more p n old new so_far is more = more ∙ (ap (λ (xs : List ℕ). xs ++ n ∷ []) so_far ∙ sym (filter-range_more p n ∙ ap (λ (b : Bool). filter p (range_with_len 0 n) ++ cond b (n ∷ []) []) is))

pub fails_more : (p : ℕ → Bool) (n : ℕ) (old new : List ℕ) → old ≡ filter p (range_with_len 0 n) → p n ≡ false → new ≡ old → new ≡ filter p (range_with_len 0 (n + 1))
fails_more p n old new so_far is same = same ∙ (so_far ∙ sym (filter-range_more p n ∙ (ap (λ (b : Bool). filter p (range_with_len 0 n) ++ cond b (n ∷ []) []) is ∙ append-nil (filter p (range_with_len 0 n)))))

-- ---- numbers that aren't alone

module _ (groups : ClassTable) where
  -- The group of a number that isn't alone in it.
  pub group_shared : (a b : ℕ) → a < length groups.class_of → b < length groups.class_of → a ≢ b → class_at groups a ≡ class_at groups b → has_two groups (class_at groups a) ≡ true
  group_shared a b ha hb other together =
      let ms = members groups (class_at groups a) in
      let x = members-contains groups a ha in
      let y : Contains ms b = subst (λ (g : ℕ). Contains (members groups g) b) (sym together) (members-contains groups b hb) in
      let at_a : get_or ms x.0 0 ≡ a = get_or_default ms x.0 0 a x.1 ∙ x.2 in
      let at_b : get_or ms y.0 0 ≡ b = get_or_default ms y.0 0 b y.1 ∙ y.2 in
      lt-ltb 1 (length ms) (elim (cases_eq x.0 y.0) [ inl e ↦ absurd (other (sym at_a ∙ (ap (λ (k : ℕ). get_or ms k 0) e ∙ at_b))) | inr ne ↦ omega (arith, ne, x.1, y.1) ])

  pub shared_contains : (a b : ℕ) → a < length groups.class_of → b < length groups.class_of → a ≢ b → class_at groups a ≡ class_at groups b → class_at groups a < class_count groups → Contains (shared_groups groups) (class_at groups a)
  shared_contains a b ha hb other together class =
      Contains-filter (has_two groups) (range_with_len 0 (class_count groups)) (class_at groups a) (range-contains (class_count groups) (class_at groups a) class) (group_shared a b ha hb other together)

  -- The numbers that aren't alone in their groups are listed.
  pub sharing_listed : ListsSharing groups (sharing_numbers groups)
  sharing_listed =
      let test : ℕ → Bool = λ n. has_two groups (class_at groups n) in
      let range = number_range groups in record {
        within = All-filter test (λ n. n < length groups.class_of) range (range_below (length groups.class_of));
        ascend = AllPairs-filter (λ x y. x < y) test range (range_ascends (length groups.class_of));
        all = λ a b ha hb other together. Contains-filter test range a (range-contains (length groups.class_of) a ha) (group_shared a b ha hb other together);
      }

  pub sharing_few : length (sharing_numbers groups) ≤ length groups.class_of
  sharing_few = omega (arith, length-filter-le (λ n. has_two groups (class_at groups n)) (number_range groups), length-range_with_len 0 (length groups.class_of))

  -- ---- cuts in the groups of two numbers or more

  pub classes_where : (test : ℕ → Bool) → AreClassesOf groups (filter test (range_with_len 0 (class_count groups)))
  classes_where test =
      let range = range_with_len 0 (class_count groups) in record {
        within = All-filter test (λ g. g < class_count groups) range (range_below (class_count groups));
        ascend = IsStrictlyIncreasing-filter test range (λ k h. range_ascends (class_count groups) k (k + 1) 0 (omega arith) h);
      }

  pub alone_alike : IsWhole groups → (row : List (List Bool)) → AreAlikeElsewhere groups row (shared_groups groups)
  alone_alike whole row m n hm hn together = elim (cases_eq m n) [
    | inl e ↦ inl (ap (λ (k : ℕ). get_or row k []) e)
    | inr other ↦ inr (shared_contains m n hm hn other together (whole.classes m hm))
  ]

-- The list stays right if more numbers are distinguished.
pub still_listed : (old new : ClassTable) (listed : List ℕ) → length new.class_of ≡ length old.class_of → ((a b : ℕ) → a < length old.class_of → b < length old.class_of → class_at new a ≡ class_at new b → class_at old a ≡ class_at old b)
    → ListsSharing old listed → ListsSharing new listed
still_listed old new listed size before is = record {
  within = λ k d h. omega (arith, is.within k d h, size);
  ascend = is.ascend;
  all = λ a b ha hb other together. is.all a b (omega (arith, ha, size)) (omega (arith, hb, size)) other (before a b (omega (arith, ha, size)) (omega (arith, hb, size)) together);
}
