-- Class tables of more and of fewer rows: how many classes they have, and which numbers are together.
use Rattle.std.proofs.Common.{◌≡◌, ◌∙◌, ℕ, ◌+◌, ◌-◌, ◌<◌, ◌≤◌, eqb, List, [], ◌∷◌, length, map, get_or, fold, refl, sym, ap, arith, inl, inr}
use Rattle.std.specs.Prelude.{Bool, true, remove, slice_index_or}
use Rattle.std.specs.List.{range_with_len, list_any}
use Rattle.std.proofs.lemmas.Bool.{cases_lt, cases_eq, eq-eqb}
use Rattle.std.proofs.lemmas.List.{length-replicate, get_or-replicate}
use Rattle.std.proofs.lemmas.List.Elements.{All-nil, All-cons, All-head, All-tail}
use Rattle.std.proofs.lemmas.List.Edits.{length-remove, get_or-remove_below, get_or-remove_above}
use Rattle.std.proofs.lemmas.List.Folds.{list_any_at}
use Rattle.std.proofs.lemmas.List.FromFn.{length-map-range_with_len, get_or-map-range_with_len}
use Rattle.std.proofs.lemmas.Map.Steps.{le-length_from_below}
use Rattle.net_model.specs.ClassTable.{ClassTable, class_count, class_at, representative, class_after, new_lowest, refined_table, class_table, first_table}
use Rattle.class_refine.proofs.Pieces.{IsSound, lead_is, lead_stays, new_lowest-All, lowest_moves}
use Rattle.class_refine.proofs.Refined.{sound-first, sound-refined, numbers-refined, count-refined, class-refined, same_after, after_same}
use Rattle.compact_tests.specs.Compacted.{HaveSameClasses}
use Rattle.compact_tests.specs.Thinning.{HaveSameAnswers}

-- ---- tables of any rows

-- Each class has a number.
pub record IsFilled (t : ClassTable) : Type 0 where
  pub sound : IsSound t
  pub some : 0 < length t.class_of
  pub inhabited : (class : ℕ) → class < class_count t → (n : ℕ) × (n < length t.class_of) × (class_at t n ≡ class)

filled-first : (numbers : ℕ) → 0 < numbers → IsFilled (first_table numbers)
filled-first numbers some =
    let long = length-replicate {A = ℕ} numbers 0 in
    record { sound = sound-first numbers; some = omega (arith, long, some); inhabited = λ class h. (0, omega (arith, long, some), omega (arith, get_or-replicate {A = ℕ} numbers 0 0 0 some, h)) }

filled-refined : (t : ClassTable) (row : List (List Bool)) → IsFilled t → IsFilled (refined_table t row)
filled-refined t row w =
    let stays : (n class : ℕ) → n < length t.class_of → class_after t row n ≡ class → (m : ℕ) × (m < length (refined_table t row).class_of) × (class_at (refined_table t row) m ≡ class) =
    λ n class inside is. (n, omega (arith, inside, numbers-refined t row), class-refined t row n inside ∙ is) in
    record {
      sound = sound-refined t row w.sound;
      some = omega (arith, numbers-refined t row, w.some);
      inhabited = λ class h. elim (cases_lt class (class_count t)) [
        | inl old ↦ let n = w.inhabited class old in stays (representative t (class_at t n.0)) class (lead_is t row n.0 n.1).0 (lead_stays t row w.sound n.0 n.1 ∙ n.2)
        | inr new ↦
            let k = class - class_count t in
            let within : k < length (new_lowest t row) = omega (arith, new, h, count-refined t row) in
            stays (get_or (new_lowest t row) k 0) class (new_lowest-All t row k 0 within).inside (lowest_moves t row w.sound k within ∙ omega (arith, new))
      ];
    }

filled-fold : (rows : List (List (List Bool))) (t : ClassTable) → IsFilled t → IsFilled (fold refined_table t rows)
filled-fold [] t w = w
filled-fold (row ∷ rows) t w = filled-fold rows (refined_table t row) (filled-refined t row w)

pub filled-table : (numbers : ℕ) (rows : List (List (List Bool))) → 0 < numbers → IsFilled (class_table numbers rows)
filled-table numbers rows some = filled-fold rows (first_table numbers) (filled-first numbers some)

numbers-fold : (rows : List (List (List Bool))) (t : ClassTable) → length (fold refined_table t rows).class_of ≡ length t.class_of
numbers-fold [] t = refl
numbers-fold (row ∷ rows) t = numbers-fold rows (refined_table t row) ∙ numbers-refined t row

pub numbers-table : (numbers : ℕ) (rows : List (List (List Bool))) → length (class_table numbers rows).class_of ≡ numbers
numbers-table numbers rows = numbers-fold rows (first_table numbers) ∙ length-replicate {A = ℕ} numbers 0

-- ---- numbers that answer alike

module _ (m n : ℕ) where
  alike-fold : (rows : List (List (List Bool))) (t : ClassTable) → IsSound t → m < length t.class_of → n < length t.class_of → class_at (fold refined_table t rows) m ≡ class_at (fold refined_table t rows) n
      → (class_at t m ≡ class_at t n) × HaveSameAnswers rows m n
  alike-fold [] t sound hm hn same = (same, All-nil (λ row. slice_index_or row m [] ≡ slice_index_or row n []))
  alike-fold (row ∷ rows) t sound hm hn same =
      let later = alike-fold rows (refined_table t row) (sound-refined t row sound) (omega (arith, hm, numbers-refined t row)) (omega (arith, hn, numbers-refined t row)) same in
      let here = same_after t row sound m n hm hn (sym (class-refined t row m hm) ∙ (later.0 ∙ class-refined t row n hn)) in
      (here.0, All-cons (λ row. slice_index_or row m [] ≡ slice_index_or row n []) row rows here.1 later.1)

  together-fold : (rows : List (List (List Bool))) (t : ClassTable) → IsSound t → m < length t.class_of → n < length t.class_of → class_at t m ≡ class_at t n → HaveSameAnswers rows m n
      → class_at (fold refined_table t rows) m ≡ class_at (fold refined_table t rows) n
  together-fold [] t sound hm hn same alike = same
  together-fold (row ∷ rows) t sound hm hn same alike =
      let here = after_same t row m n hm hn same (All-head (λ row. slice_index_or row m [] ≡ slice_index_or row n []) row rows alike) in
      together-fold rows (refined_table t row) (sound-refined t row sound) (omega (arith, hm, numbers-refined t row)) (omega (arith, hn, numbers-refined t row))
      (class-refined t row m hm ∙ (here ∙ sym (class-refined t row n hn))) (All-tail (λ row. slice_index_or row m [] ≡ slice_index_or row n []) row rows alike)

  module _ (numbers : ℕ) (rows : List (List (List Bool))) (hm : m < numbers) (hn : n < numbers) where
    pub alike : class_at (class_table numbers rows) m ≡ class_at (class_table numbers rows) n → HaveSameAnswers rows m n
    alike same = let long = length-replicate {A = ℕ} numbers 0 in (alike-fold rows (first_table numbers) (sound-first numbers) (omega (arith, long, hm)) (omega (arith, long, hn)) same).1

    pub together : HaveSameAnswers rows m n → class_at (class_table numbers rows) m ≡ class_at (class_table numbers rows) n
    together same =
        let long = length-replicate {A = ℕ} numbers 0 in
        together-fold rows (first_table numbers) (sound-first numbers) (omega (arith, long, hm)) (omega (arith, long, hn)) (get_or-replicate {A = ℕ} numbers m 0 0 hm ∙ sym (get_or-replicate {A = ℕ} numbers n 0 0 hn)) same

-- ---- fewer rows

-- A number at another place stays if one is removed.
still_there : (xs : List ℕ) (at q x : ℕ) → at < length xs → q < length xs → (q ≡ at → ⊥) → get_or xs q 0 ≡ x → list_any (eqb x) (remove xs at) ≡ true
still_there xs at q x inside hq other is =
    let size = length-remove xs at inside in
    elim (cases_lt q at) [
      | inl below ↦ list_any_at (eqb x) (remove xs at) q 0 (omega (arith, below, inside, size)) (eq-eqb x (get_or (remove xs at) q 0) (sym is ∙ sym (get_or-remove_below xs at 0 q below inside)))
      | inr above ↦
          let later : at < q = later_place at q other above in
          let place : q - 1 + 1 ≡ q = omega (arith, later) in
          list_any_at (eqb x) (remove xs at) (q - 1) 0 (omega (arith, later, hq, size))
          (eq-eqb x (get_or (remove xs at) (q - 1) 0) (sym is ∙ ap (λ (k : ℕ). get_or xs k 0) (sym place) ∙ sym (get_or-remove_above xs at 0 (q - 1) (omega (arith, later)) inside)))
    ]
  where
    later_place : (at q : ℕ) → (q ≡ at → ⊥) → at ≤ q → at < q
    later_place at q other low = elim (cases_lt at q) [ inl lt ↦ lt | inr le ↦ absurd (other (omega (arith, le, low))) ]

-- Numbers that answer alike in the rows of one list answer alike in those of the other.
abbrev pub IsCoarser : ℕ → List (List (List Bool)) → List (List (List Bool)) → Type 0
IsCoarser numbers fewer rows = (m n : ℕ) → m < numbers → n < numbers → HaveSameAnswers rows m n → HaveSameAnswers fewer m n

module _ (numbers : ℕ) (fewer rows : List (List (List Bool))) (coarser : IsCoarser numbers fewer rows) (some : 0 < numbers) where
  abbrev fine : ClassTable
  fine = class_table numbers rows

  abbrev coarse : ClassTable
  coarse = class_table numbers fewer

  stay_together : (m n : ℕ) → m < numbers → n < numbers → class_at fine m ≡ class_at fine n → class_at coarse m ≡ class_at coarse n
  stay_together m n hm hn same = together m n numbers fewer hm hn (coarser m n hm hn (alike m n numbers rows hm hn same))

  -- The class that contains the members of a class, with the fewer rows.
  abbrev taken_to : ℕ → ℕ
  taken_to class = class_at coarse (representative fine class)

  taken : (n : ℕ) → n < numbers → taken_to (class_at fine n) ≡ class_at coarse n
  taken n hn =
      let lead = lead_is fine [] n (omega (arith, hn, numbers-table numbers rows)) in
      stay_together (representative fine (class_at fine n)) n (omega (arith, lead.0, numbers-table numbers rows)) hn lead.1

  abbrev all_taken : List ℕ
  all_taken = map taken_to (range_with_len 0 (class_count fine))

  class_below : (n : ℕ) → n < numbers → class_at fine n < class_count fine
  class_below n hn = (filled-table numbers rows some).sound.classes n (omega (arith, hn, numbers-table numbers rows))

  taken_at : (n : ℕ) → n < numbers → get_or all_taken (class_at fine n) 0 ≡ class_at coarse n
  taken_at n hn = get_or-map-range_with_len taken_to 0 (class_count fine) (class_at fine n) (class_at fine n) 0 (class_below n hn) (omega arith) ∙ taken n hn

  count_taken : length all_taken ≡ class_count fine
  count_taken = length-map-range_with_len taken_to 0 (class_count fine)

  number_in : (class : ℕ) → class < class_count coarse → (n : ℕ) × (n < numbers) × (class_at coarse n ≡ class)
  number_in class h = let n = (filled-table numbers fewer some).inhabited class h in (n.0, omega (arith, n.1, numbers-table numbers fewer), n.2)

  -- Fewer rows don't make more classes.
  pub fewer_classes : class_count coarse ≤ class_count fine
  fewer_classes = rw (sym count_taken) (le-length_from_below all_taken (class_count coarse) (λ class h.
      let n = number_in class h in
      list_any_at (eqb class) all_taken (class_at fine n.0) 0 (omega (arith, count_taken, class_below n.0 n.1)) (eq-eqb class (get_or all_taken (class_at fine n.0) 0) (sym n.2 ∙ sym (taken_at n.0 n.1)))))

  -- If two classes become one, there are fewer classes.
  one_less : (m n : ℕ) → m < numbers → n < numbers → class_at coarse m ≡ class_at coarse n → (class_at fine m ≡ class_at fine n → ⊥) → class_count coarse < class_count fine
  one_less m n hm hn same apart =
      let a = class_at fine m in
      let inside : a < length all_taken = omega (arith, count_taken, class_below m hm) in
      let left = remove all_taken a in
      let size : length left + 1 ≡ length all_taken = length-remove all_taken a inside in
      let few : class_count coarse ≤ length left = le-length_from_below left (class_count coarse) (λ class h.
      let k = number_in class h in
      elim (cases_eq (class_at fine k.0) a) [
        | inl with_m ↦ still_there all_taken a (class_at fine n) class inside (omega (arith, count_taken, class_below n hn)) (λ e. apart (sym e)) (taken_at n hn ∙ (sym same ∙ (sym (stay_together k.0 m k.1 hm with_m) ∙ k.2)))
        | inr other ↦ still_there all_taken a (class_at fine k.0) class inside (omega (arith, count_taken, class_below k.0 k.1)) other (taken_at k.0 k.1 ∙ k.2)
      ]) in
      omega (arith, few, size, count_taken)

  -- If there are as many classes, they are the same.
  pub as_many : class_count coarse ≡ class_count fine → HaveSameClasses fine coarse
  as_many count = record {
    numbers = numbers-table numbers fewer ∙ sym (numbers-table numbers rows);
    together = λ m n hm hn.
        let m_in : m < numbers = omega (arith, hm, numbers-table numbers rows) in
        let n_in : n < numbers = omega (arith, hn, numbers-table numbers rows) in (
          (λ same. elim (cases_eq (class_at fine m) (class_at fine n)) [ inl is ↦ is | inr apart ↦ absurd (omega (arith, one_less m n m_in n_in same apart, count)) ]),
          stay_together m n m_in n_in,
        );
  }
