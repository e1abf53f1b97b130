-- The rows of a standing block, one number after another.
use Rattle.std.proofs.Common.{◌≡◌, ◌≢◌, ◌∙◌, ℕ, zero, suc, ◌+◌, ◌<◌, ◌≤◌, ◌⊎◌, Bool, true, false, List, [], ◌∷◌, length, get_or, set, drop, sym, ap, subst, arith, inl, inr}
use Rattle.std.specs.Prelude.{Contains}
use Rattle.std.proofs.lemmas.Bool.{cases_eq, false≢true}
use Rattle.std.proofs.lemmas.List.{length-drop, length-set, get_or-set_same, get_or-set_other}
use Rattle.std.proofs.Math.Seq.{drop-cons}
use Rattle.net_model.specs.Answer.{bit_at}
use Rattle.net_model.specs.ClassTable.{ClassTable, class_at, representative}
use Rattle.class_refine.specs.Fields.{IsWhole}
use Rattle.class_refine.proofs.Refined.{representative-member}
use Rattle.word_sim.specs.declared.lanes.TheConstants.{LANES}
use Rattle.word_sim.specs.GoodSim.{GoodSim, vectors_of}
use Rattle.kept_vectors.specs.Notes.{Noted, AreAsked}
use Rattle.kept_vectors.specs.Standing.{IsRowOf, AreRowsBut, AreRows}

-- ---- a list without its first numbers

-- a number is the first that is left, or one of those after it
in_front : (numbers : List ℕ) (k n : ℕ) → k < length numbers → Contains (drop k numbers) n → (n ≡ get_or numbers k 0) ⊎ Contains (drop (k + 1) numbers) n
in_front numbers k n h has = by (subst (λ (ns : List ℕ). Contains ns n) first has)
  where
    first : drop k numbers ≡ get_or numbers k 0 ∷ drop (k + 1) numbers
    first = drop-cons numbers k 0 h ∙ (let e : suc k ≡ k + 1 = omega arith in ap (λ (j : ℕ). get_or numbers k 0 ∷ drop j numbers) e)

    by : Contains (get_or numbers k 0 ∷ drop (k + 1) numbers) n → (n ≡ get_or numbers k 0) ⊎ Contains (drop (k + 1) numbers) n
    by (zero, less, is) = inl (sym is)
    by (suc j, less, is) = inr (j, omega (arith, less), is)

-- ---- rows

module _ (good : GoodSim) (roots : List ℕ) (t : ClassTable) (asked : List ℕ) where
  -- the row of one number more
  pub row_more : {IsLeft IsLeftNow : ℕ → Type 0} {rows : List (List Bool)} (m : ℕ) (row : List Bool) → AreRowsBut good roots t asked IsLeft rows → m < length rows → IsRowOf good t m row
      → ((n : ℕ) → n ≢ m → IsLeft n → IsLeftNow n) → AreRowsBut good roots t asked IsLeftNow (set rows m row)
  row_more {IsLeft} {IsLeftNow} {rows} m row are inside here left = record {
    count = length-set rows m row ∙ are.count;
    right = λ n h one. elim (cases_eq n m) [
      | inl same ↦ inl (subst (λ (k : ℕ). IsRowOf good t k (get_or (set rows m row) k [])) (sym same) (rw (get_or-set_same rows m row [] inside) here))
      | inr other ↦ elim (are.right n h one) [
        | inl right ↦ inl (rw (get_or-set_other rows m n row [] other) right)
        | inr is ↦ inr (left n other is)
      ]
    ];
  }

  -- fewer are left
  pub rows_fewer : {IsLeft IsLeftNow : ℕ → Type 0} {rows : List (List Bool)} → AreRowsBut good roots t asked IsLeft rows → ((n : ℕ) → IsLeft n → IsLeftNow n) → AreRowsBut good roots t asked IsLeftNow rows
  rows_fewer are left = record { count = are.count; right = λ n h one. elim (are.right n h one) [ inl right ↦ inl right | inr is ↦ inr (left n is) ] }

  -- none is left
  pub rows_whole : {IsLeft : ℕ → Type 0} {rows : List (List Bool)} → AreRowsBut good roots t asked IsLeft rows → ((n : ℕ) → IsLeft n → ⊥) → AreRows good roots t asked rows
  rows_whole are none = record { count = are.count; right = λ n h one. elim (are.right n h one) [ inl right ↦ right | inr is ↦ absurd (none n is) ] }

  module _ (k : ℕ) (h : k < length asked) where
    -- the next of those that were asked
    behind : (n : ℕ) → n ≢ get_or asked k 0 → Contains (drop k asked) n → Contains (drop (k + 1) asked) n
    behind n other has = elim (in_front asked k n h has) [ inl same ↦ absurd (other same) | inr later ↦ later ]

    pub asked_row : {rows : List (List Bool)} (row : List Bool) → AreRowsBut good roots t asked (Contains (drop k asked)) rows → get_or asked k 0 < length rows → IsRowOf good t (get_or asked k 0) row
        → AreRowsBut good roots t asked (Contains (drop (k + 1) asked)) (set rows (get_or asked k 0) row)
    asked_row row are inside here = row_more (get_or asked k 0) row are inside here behind

    module _ {rows : List (List Bool)} (lane : ℕ) (are : AreRowsBut good roots t asked (λ n. (bit_at (get_or rows n []) lane ≡ true) × Contains (drop k asked) n) rows) where
      -- it left its class at the lane
      pub left_row : (row : List Bool) → get_or asked k 0 < length rows → IsRowOf good t (get_or asked k 0) row
          → AreRowsBut good roots t asked (λ n. (bit_at (get_or (set rows (get_or asked k 0) row) n []) lane ≡ true) × Contains (drop (k + 1) asked) n) (set rows (get_or asked k 0) row)
      left_row row inside here =
          let m = get_or asked k 0 in
          row_more m row are inside here (λ n other both. (rw (get_or-set_other rows m n row [] other) both.0, behind n other both.1))

      -- it stayed in its class
      pub kept_row : bit_at (get_or rows (get_or asked k 0) []) lane ≡ false → AreRowsBut good roots t asked (λ n. (bit_at (get_or rows n []) lane ≡ true) × Contains (drop (k + 1) asked) n) rows
      kept_row off = rows_fewer are (λ n both. (both.0, behind n (λ same. false≢true (sym off ∙ subst (λ (m : ℕ). bit_at (get_or rows m []) lane ≡ true) same both.0)) both.1))

  none_behind : (k n : ℕ) → length asked ≤ k → Contains (drop k asked) n → ⊥
  none_behind k n over (j, less, is) = omega (arith, over, less, length-drop k asked)

  -- after the last none is left
  pub rows_asked : {rows : List (List Bool)} (k : ℕ) → length asked ≤ k → AreRowsBut good roots t asked (Contains (drop k asked)) rows → AreRows good roots t asked rows
  rows_asked k over are = rows_whole are (λ n has. none_behind k n over has)

  pub rows_anew : {rows : List (List Bool)} (lane k : ℕ) → length asked ≤ k → AreRowsBut good roots t asked (λ n. (bit_at (get_or rows n []) lane ≡ true) × Contains (drop k asked) n) rows → AreRows good roots t asked rows
  rows_anew lane k over are = rows_whole are (λ n both. none_behind k n over both.1)

-- at first no row has a lane, which is right for the numbers that were not asked
pub rows_empty : (good : GoodSim) (noted : Noted) (t : ClassTable) (asked : List ℕ) (rows : List (List Bool)) → IsWhole t → length (vectors_of good) ≤ LANES → length rows ≡ length t.class_of → AreAsked good noted t asked
    → ((n lane : ℕ) → n < length rows → lane < LANES → bit_at (get_or rows n []) lane ≡ false) → AreRowsBut good noted.roots t asked (Contains asked) rows
rows_empty good noted t asked rows whole few count are empty = record {
  count = count;
  right = λ n h one. elim one [
    | inr has ↦ inr has
    | inl unit ↦ elim (are.others n h) [
      | inl both ↦ inr (both.0 unit)
      | inr alike ↦
          let lead = representative-member t whole (class_at t n) (whole.classes n h) in
          inl (λ lane live. (
            λ off. alike (representative t (class_at t n)) lane lead.0 lead.1 live,
            λ led. empty n lane (omega (arith, h, count)) (omega (arith, live, few)),
          ))
    ]
  ];
}
