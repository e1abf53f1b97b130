-- The table after a cut.
use Rattle.std.proofs.Common.{◌≡◌, ◌∙◌, ℕ, ◌+◌, ◌-◌, ◌<◌, ◌≤◌, Bool, eqb, ◌&&◌, List, [], length, get_or, map, refl, sym, ap, subst, arith, inl, inr, Option, Some, None, filter, MatchOption, IsTrue}
use Rattle.std.specs.Option.{option_map_or}
use Rattle.std.specs.List.{position, range_with_len}
use Rattle.std.proofs.lemmas.Bool.{cases_lt, eq-eqb, lt-ltb, ltb-true}
use Rattle.std.proofs.lemmas.List.{length-map, length-append, length-replicate, get_or-replicate, get_or_append_left, get_or-append-add, get_or-map}
use Rattle.std.proofs.lemmas.List.Folds.{list_any_at}
use Rattle.std.proofs.lemmas.List.FromFn.{length-map-range_with_len, get_or-map-range_with_len}
use Rattle.std.proofs.lemmas.Map.Steps.{le-length_from_below}
use Rattle.net_model.specs.ClassTable.{ClassTable, class_count, class_at, members, representative, answer_at, piece_lowest, new_lowest, class_after, refined_table, cuts_class, first_table, SplitBy}
use Rattle.class_refine.specs.Fields.{IsWhole}
use Rattle.class_refine.proofs.Ranges.{filter_where, filter-filter, range_below}
use Rattle.class_refine.proofs.Pieces.{IsSound, piece_is, lead_is, same_piece, new_lowest-All, after_cases, lowest_moves, lead_stays}

pub sound_from : (t : ClassTable) → IsWhole t → IsSound t
sound_from t w = record { classes = w.classes; births = w.births }

module _ (t : ClassTable) (row : List (List Bool)) where
  pub numbers-refined : length (refined_table t row).class_of ≡ length t.class_of
  unfolding refined_table
  numbers-refined = length-map-range_with_len (class_after t row) 0 (length t.class_of)

  pub count-refined : class_count (refined_table t row) ≡ class_count t + length (new_lowest t row)
  unfolding refined_table
  count-refined =
      length-append t.births (map (λ n. Some (class_at t n, t.patterns)) (new_lowest t row))
      ∙ ap (λ k. class_count t + k) (length-map (new_lowest t row) (λ n. Some (class_at t n, t.patterns)))

  pub class-refined : (n : ℕ) → n < length t.class_of → class_at (refined_table t row) n ≡ class_after t row n
  unfolding refined_table
  class-refined n h = get_or-map-range_with_len (class_after t row) 0 (length t.class_of) n n 0 h (omega arith)

  pub patterns-refined : (refined_table t row).patterns ≡ t.patterns + 1
  unfolding refined_table
  patterns-refined = refl

  pub birth_old : (class : ℕ) → class < class_count t → get_or (refined_table t row).births class None ≡ get_or t.births class None
  unfolding refined_table
  birth_old class h = get_or_append_left t.births (map (λ n. Some (class_at t n, t.patterns)) (new_lowest t row)) None class h

  pub birth_new : (k : ℕ) → k < length (new_lowest t row) → get_or (refined_table t row).births (class_count t + k) None ≡ Some (class_at t (get_or (new_lowest t row) k 0), t.patterns)
  unfolding refined_table
  birth_new k h =
      let birth : ℕ → Option (ℕ × ℕ) = λ n. Some (class_at t n, t.patterns) in
      get_or-append-add t.births (map birth (new_lowest t row)) k None ∙ get_or-map birth (new_lowest t row) k 0 None h

  -- what is true of the birth of a class
  abbrev BirthOf : ℕ → ℕ → Option (ℕ × ℕ) → Type 0
  BirthOf class patterns birth = MatchOption birth (class ≡ 0) (λ birth. (birth.0 < class) × (birth.1 < patterns))

  later_birth : (class patterns : ℕ) (birth : Option (ℕ × ℕ)) → BirthOf class patterns birth → BirthOf class (patterns + 1) birth
  later_birth class patterns None b = b
  later_birth class patterns (Some birth) b = (b.0, omega (arith, b.1))

  -- ---- two numbers after the cut

  pub after_same : (m n : ℕ) → m < length t.class_of → n < length t.class_of → class_at t m ≡ class_at t n → answer_at t row m ≡ answer_at t row n
      → class_after t row m ≡ class_after t row n
  unfolding class_after
  after_same m n hm hn class answer =
      let low = same_piece t row m n hm hn class answer in
      λ i. option_map_or (λ k. class_count t + k) (position (λ m. eqb m (low i)) (new_lowest t row)) (class i)

  module _ (sound : IsSound t) where
    -- a number of an old class was of it before
    pub class_old : (n : ℕ) → n < length t.class_of → class_after t row n < class_count t → class_after t row n ≡ class_at t n
    class_old n h old = grind (arith, after_cases t row sound n h)

    births-refined : (class : ℕ) → class < class_count t + length (new_lowest t row) → BirthOf class (t.patterns + 1) (get_or (refined_table t row).births class None)
    births-refined class h =
        let k = class - class_count t in
        elim (cases_lt class (class_count t)) [
          | inl old ↦ rw (birth_old class old) (later_birth class t.patterns (get_or t.births class None) (sound.births class old))
          | inr new ↦
              let inside : k < length (new_lowest t row) = omega arith in
              let place : class ≡ class_count t + k = omega arith in
              rw (place, birth_new k inside) (omega (arith, sound.classes (get_or (new_lowest t row) k 0) (new_lowest-All t row k 0 inside).inside), omega arith)
        ]

    pub sound-refined : IsSound (refined_table t row)
    sound-refined = record {
      classes = λ n h.
          let inside : n < length t.class_of = omega (arith, numbers-refined) in
          grind (arith, after_cases t row sound n inside, class-refined n inside, sound.classes n inside, count-refined);
      births = λ class h.
          subst (λ p. BirthOf class p (get_or (refined_table t row).births class None)) (sym patterns-refined) (births-refined class (omega (arith, count-refined)));
    }

    pub same_after : (m n : ℕ) → m < length t.class_of → n < length t.class_of → class_after t row m ≡ class_after t row n
        → (class_at t m ≡ class_at t n) × (answer_at t row m ≡ answer_at t row n)
    same_after m n hm hn same =
        let one = piece_is t row m hm in
        let other = piece_is t row n hn in
        let low : piece_lowest t row m ≡ piece_lowest t row n = grind (arith, after_cases t row sound m hm, after_cases t row sound n hn, sound.classes m hm, sound.classes n hn, same) in
        (sym one.class ∙ (ap (class_at t) low ∙ other.class), sym one.answer ∙ (ap (answer_at t row) low ∙ other.answer))

    -- ---- splits

    pub split_adds : SplitBy t row → 0 < length (new_lowest t row)
    split_adds split =
        grind (arith, after_cases t row sound split.first split.first_below, after_cases t row sound split.second split.second_below, same_after split.first split.second split.first_below split.second_below, split.together, split.differ)

    pub adds_split : 0 < length (new_lowest t row) → SplitBy t row
    adds_split some =
        let n = get_or (new_lowest t row) 0 0 in
        let b = new_lowest-All t row 0 0 some in
        let rep = representative t (class_at t n) in
        let lead = lead_is t row n b.inside in
        record {
          first = rep;
          second = n;
          first_below = lead.0;
          second_below = b.inside;
          together = lead.1;
          differ = λ answer.
              omega (arith, lowest_moves t row sound 0 some, lead_stays t row sound n b.inside, after_same rep n lead.0 b.inside lead.1 answer, sound.classes n b.inside);
        }

  -- ---- members after the cut

  -- a part of the members of a class that is all of a class after the cut
  pub part_members : (class now : ℕ) (p : ℕ → Bool) → ((n : ℕ) → n < length t.class_of → (eqb (class_at t n) class && p n) ≡ eqb (class_at (refined_table t row) n) now)
      → filter p (members t class) ≡ members (refined_table t row) now
  unfolding members
  part_members class now p same =
      let test : ℕ → Bool = λ n. eqb (class_at (refined_table t row) n) now in
      let all = range_with_len 0 (length t.class_of) in
      filter-filter (λ n. eqb (class_at t n) class) p all
      ∙ (filter_where (λ n. eqb (class_at t n) class && p n) test all (λ i d l. same (get_or all i d) (range_below (length t.class_of) i d l)) ∙ ap (λ n. filter test (range_with_len 0 n)) (sym numbers-refined))

pub cuts_from : (t : ClassTable) (row : List (List Bool)) → 0 < length (new_lowest t row) → IsTrue (cuts_class t row)
unfolding cuts_class
cuts_from t row h = lt-ltb 0 (length (new_lowest t row)) h

pub from_cuts : (t : ClassTable) (row : List (List Bool)) → IsTrue (cuts_class t row) → 0 < length (new_lowest t row)
unfolding cuts_class
from_cuts t row h = ltb-true 0 (length (new_lowest t row)) h

-- ---- tables that are whole

pub representative-member : (t : ClassTable) → IsWhole t → (class : ℕ) → class < class_count t
    → (representative t class < length t.class_of) × (class_at t (representative t class) ≡ class)
representative-member t w class h =
    let n = w.inhabited class h in
    let lead = lead_is t [] n.0 n.1 in
    subst (λ c. (representative t c < length t.class_of) × (class_at t (representative t c) ≡ c)) n.2 (lead.0, lead.1)

pub whole-refined : (t : ClassTable) (row : List (List Bool)) → IsWhole t → 0 < length (new_lowest t row) → IsWhole (refined_table t row)
unfolding refined_table
whole-refined t row w some =
    let sound = sound_from t w in
    let after = sound-refined t row sound in
    let stays : (n class : ℕ) → n < length t.class_of → class_after t row n ≡ class → (m : ℕ) × (m < length (refined_table t row).class_of) × (class_at (refined_table t row) m ≡ class) =
    λ n class inside is. (n, omega (arith, inside, numbers-refined t row), class-refined t row n inside ∙ is) in
    record {
      some = omega (arith, numbers-refined t row, w.some);
      classes = after.classes;
      inhabited = λ class h. elim (cases_lt class (class_count t)) [
        | inl old ↦ let n = w.inhabited class old in stays (representative t (class_at t n.0)) class (lead_is t row n.0 n.1).0 (lead_stays t row sound n.0 n.1 ∙ n.2)
        | inr new ↦
            let k = class - class_count t in
            let within : k < length (new_lowest t row) = omega (arith, count-refined t row) in
            stays (get_or (new_lowest t row) k 0) class (new_lowest-All t row k 0 within).inside (lowest_moves t row sound k within ∙ omega arith)
      ];
      births = after.births;
      patterns = omega (arith, count-refined t row, w.patterns);
    }

pub sound-first : (numbers : ℕ) → IsSound (first_table numbers)
sound-first numbers = record {
  classes = λ n h. omega (arith, get_or-replicate {A = ℕ} numbers n 0 0 (omega (arith, length-replicate {A = ℕ} numbers 0)));
  births = λ class h. let zero : class ≡ 0 = omega arith in rw zero refl;
}

pub whole-first : (numbers : ℕ) → 0 < numbers → IsWhole (first_table numbers)
whole-first numbers some =
    let long = length-replicate {A = ℕ} numbers 0 in
    record {
      some = omega (arith, long);
      classes = (sound-first numbers).classes;
      inhabited = λ class h. (0, omega (arith, long), omega (arith, get_or-replicate {A = ℕ} numbers 0 0 0 some));
      births = (sound-first numbers).births;
      patterns = omega arith;
    }

-- there are at most as many classes as numbers, since each class has a member
pub few_classes : (t : ClassTable) → IsWhole t → class_count t ≤ length t.class_of
few_classes t w =
    le-length_from_below t.class_of (class_count t)
    (λ class h. let n = w.inhabited class h in list_any_at (eqb class) t.class_of n.0 0 n.1 (eq-eqb class (class_at t n.0) (sym n.2)))
