-- Each pattern that remains splits a class of those before it.
use Rattle.std.proofs.Common.{◌≡◌, ◌≢◌, ◌∙◌, ℕ, zero, suc, ◌+◌, ◌<◌, ◌≤◌, Bool, true, false, List, [], ◌∷◌, ◌++◌, length, take, drop, get_or, fold, refl, sym, ap, subst, arith, inl, inr}
use Rattle.std.specs.Prelude.{All, remove, slice_index_or}
use Rattle.std.proofs.lemmas.Bool.{cases_lt}
use Rattle.std.specs.Cmp.{booleans_Decides}
use Rattle.std.proofs.lemmas.Slice.Eq.{slice_eq-Decides}
use Rattle.std.proofs.lemmas.List.{take_more}
use Rattle.std.proofs.lemmas.List.Sums.{fold-append}
use Rattle.std.proofs.lemmas.List.Elements.{All-append, All-cons}
use Rattle.net_model.specs.ClassTable.{ClassTable, class_table, class_count, class_at, same_bits, new_lowest, refined_table, first_table, SplitBy}
use Rattle.net_model.proofs.Elements.{All-left, All-right}
use Rattle.class_refine.proofs.Refined.{split_adds, adds_split, count-refined}
use Rattle.compact_tests.specs.Thinning.{HaveSameAnswers}
use Rattle.compact_tests.proofs.TableLemmas.{filled-table, numbers-table, IsCoarser, together, fewer_classes}

-- A list is the elements before a place, the element there and those after it.
pub parts_at : {X : Type 0} (xs : List X) (k : ℕ) (d : X) → k < length xs → xs ≡ take k xs ++ get_or xs k d ∷ drop (suc k) xs
parts_at [] k d h = absurd (omega (arith, h))
parts_at (x ∷ xs) zero d h = refl
parts_at {X} (x ∷ xs) (suc k) d h = ap (λ (ys : List X). x ∷ ys) (parts_at xs k d (omega (arith, h)))

module _ (numbers : ℕ) (some : 0 < numbers) (rows : List (List (List Bool))) (k : ℕ) (within : k < length rows)
    (needed : class_count (class_table numbers (remove rows k)) < class_count (class_table numbers rows)) where
  abbrev row : List (List Bool)
  row = get_or rows k []

  abbrev so_far : ClassTable
  so_far = class_table numbers (take k rows)

  -- If a row splits no class of those before it, numbers that are together answer alike to it.
  unsplit : length (new_lowest so_far row) ≤ 0 → (m n : ℕ) → m < numbers → n < numbers → class_at so_far m ≡ class_at so_far n → get_or row m [] ≡ get_or row n []
  unsplit none m n hm hn same = by (same_bits (get_or row m []) (get_or row n [])) refl
    where
      by : (b : Bool) → same_bits (get_or row m []) (get_or row n []) ≡ b → get_or row m [] ≡ get_or row n []
      by true e = (slice_eq-Decides booleans_Decides (get_or row m []) (get_or row n []) true (sym e)).0 refl
      by false e =
          let differ : get_or row m [] ≢ get_or row n [] = λ is. let clash : ◌≡◌ {A = Bool} false true = (slice_eq-Decides booleans_Decides (get_or row m []) (get_or row n []) false (sym e)).1 is in cc in
          let split : SplitBy so_far row = record { first = m; second = n; first_below = omega (arith, hm, numbers-table numbers (take k rows)); second_below = omega (arith, hn, numbers-table numbers (take k rows)); together = same; differ = differ } in
          absurd (omega (arith, none, split_adds so_far row (filled-table numbers (take k rows) some).sound split))

  coarser : length (new_lowest so_far row) ≤ 0 → IsCoarser numbers rows (remove rows k)
  coarser none m n hm hn same =
      let SameAnswer : List (List Bool) → Type 0 = λ r. slice_index_or r m [] ≡ slice_index_or r n [] in
      let front : HaveSameAnswers (take k rows) m n = All-left SameAnswer (take k rows) (drop (suc k) rows) same in
      let back : HaveSameAnswers (drop (suc k) rows) m n = All-right SameAnswer (take k rows) (drop (suc k) rows) same in
      let here = unsplit none m n hm hn (together m n numbers (take k rows) hm hn front) in
      subst (All SameAnswer) (sym (parts_at rows k [] within)) (All-append SameAnswer (take k rows) (row ∷ drop (suc k) rows) front (All-cons SameAnswer row (drop (suc k) rows) here back))

  -- A needed row splits a class.
  pub adds : 0 < length (new_lowest so_far row)
  adds = elim (cases_lt 0 (length (new_lowest so_far row))) [ inl lt ↦ lt | inr none ↦ absurd (omega (arith, needed, fewer_classes numbers rows (remove rows k) (coarser none) some)) ]

  pub needed_splits : SplitBy so_far row
  needed_splits = adds_split so_far row (filled-table numbers (take k rows) some).sound adds

-- Each row is needed.
abbrev pub AreNeededRows : ℕ → List (List (List Bool)) → Type 0
AreNeededRows numbers rows = (k : ℕ) → k < length rows → class_count (class_table numbers (remove rows k)) < class_count (class_table numbers rows)

-- One more row refines the table.
pub table_more : (numbers : ℕ) (rows : List (List (List Bool))) (k : ℕ) → k < length rows → class_table numbers (take (k + 1) rows) ≡ refined_table (class_table numbers (take k rows)) (get_or rows k [])
table_more numbers rows k within = ap (class_table numbers) (take_more rows k [] within) ∙ fold-append refined_table (first_table numbers) (take k rows) (get_or rows k [] ∷ [])

-- There are fewer rows than classes if each row is needed.
pub few_rows : (numbers : ℕ) → 0 < numbers → (rows : List (List (List Bool))) → AreNeededRows numbers rows → (k : ℕ) → k ≤ length rows → k < class_count (class_table numbers (take k rows))
few_rows numbers some rows needed zero h = omega arith
few_rows numbers some rows needed (suc k) h =
    let within : k < length rows = omega (arith, h) in
    let before = few_rows numbers some rows needed k (omega (arith, h)) in
    let next : suc k ≡ k + 1 = omega arith in
    let table : class_table numbers (take (suc k) rows) ≡ refined_table (class_table numbers (take k rows)) (get_or rows k []) = ap (λ (n : ℕ). class_table numbers (take n rows)) next ∙ table_more numbers rows k within in
    omega (arith, before, adds numbers some rows k within (needed k within), ap class_count table, count-refined (class_table numbers (take k rows)) (get_or rows k []))

patterns_fold : (rows : List (List (List Bool))) (t : ClassTable) → (fold refined_table t rows).patterns ≡ t.patterns + length rows
unfolding refined_table
patterns_fold [] t = omega arith
patterns_fold (row ∷ rows) t = omega (arith, patterns_fold rows (refined_table t row))

pub patterns_table : (numbers : ℕ) (rows : List (List (List Bool))) → (class_table numbers rows).patterns ≡ length rows
patterns_table numbers rows = omega (arith, patterns_fold rows (first_table numbers))
