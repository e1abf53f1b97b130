-- The entries of the classes, bit by bit.
use Rattle.std.proofs.Common.{◌≡◌, ◌∙◌, ℕ, ◌+◌, ◌<◌, ◌≤◌, Bool, false, not, eqb, List, [], length, map, get_or, set, sym, ap, arith, inl, inr}
use Rattle.std.specs.Prelude.{zip}
use Rattle.std.proofs.lemmas.Bool.{cases_eq}
use Rattle.std.specs.List.{range_with_len}
use Rattle.std.proofs.lemmas.List.{ext_get_or, get_or-map, get_or-set_same, get_or-set_other, length-map, length-set}
use Rattle.std.proofs.lemmas.List.FromFn.{get_or-map-range_with_len, length-map-range_with_len}
use Rattle.std.proofs.lemmas.Slice.Zip.{get_or-zip, length-zip}
use Rattle.net_model.specs.Answer.{bit_at}
use Rattle.net_model.specs.Rows.{row_at}
use Rattle.net_model.proofs.Copies.{same_bits_same_list}
use Rattle.samediff_dict.specs.declared.numbering.Candidates.{Candidates}
use Rattle.samediff_dict.specs.Copied.{class_entry}

module _ (patterns : List Candidates) (chosen : List ℕ) (same : length patterns ≡ length chosen) (class : ℕ) where
  pub length-class_entry : length (class_entry patterns chosen class) ≡ length chosen
  length-class_entry = omega (arith, length-map (zip patterns chosen) (λ x. not (eqb (get_or x.0.numbers class 0) x.1)), length-zip patterns chosen, same)

  pub class_entry_at : (pattern : ℕ) (d : Candidates) → pattern < length chosen → bit_at (class_entry patterns chosen class) pattern ≡ not (eqb (get_or (get_or patterns pattern d).numbers class 0) (get_or chosen pattern 0))
  class_entry_at pattern d h =
      let test : Candidates × ℕ → Bool = λ x. not (eqb (get_or x.0.numbers class 0) x.1) in
      get_or-map test (zip patterns chosen) pattern (d, 0) false (omega (arith, length-zip patterns chosen, h, same)) ∙ ap test (get_or-zip patterns chosen pattern (d, 0) (omega (arith, h, same)) h)

-- the entry with another number in the place of the chosen one at a pattern
pub entry_set : (patterns : List Candidates) (chosen : List ℕ) → length patterns ≡ length chosen → (class pattern number : ℕ) (d : Candidates) → pattern < length chosen
    → class_entry patterns (set chosen pattern number) class ≡ set (class_entry patterns chosen class) pattern (not (eqb (get_or (get_or patterns pattern d).numbers class 0) number))
entry_set patterns chosen same class pattern number d within =
    let old = class_entry patterns chosen class in
    let new = class_entry patterns (set chosen pattern number) class in
    let bit = not (eqb (get_or (get_or patterns pattern d).numbers class 0) number) in
    let kept = length-set chosen pattern number in
    let long : length new ≡ length chosen = length-class_entry patterns (set chosen pattern number) (same ∙ sym kept) class ∙ kept in
    let old_long = length-class_entry patterns chosen same class in
    same_bits_same_list new (set old pattern bit) (long ∙ sym (length-set old pattern bit ∙ old_long)) (λ k h.
    let hk : k < length chosen = omega (arith, h, long) in
    class_entry_at patterns (set chosen pattern number) (same ∙ sym kept) class k d (omega (arith, hk, kept))
    ∙ elim (cases_eq k pattern) [
      | inl e ↦
          let here : get_or (set chosen pattern number) k 0 ≡ number = ap (λ j. get_or (set chosen pattern number) j 0) e ∙ get_or-set_same chosen pattern number 0 within in
          (λ i. not (eqb (get_or (get_or patterns (e i) d).numbers class 0) (here i))) ∙ sym (ap (λ j. get_or (set old pattern bit) j false) e ∙ get_or-set_same old pattern bit false (omega (arith, within, old_long)))
      | inr ne ↦
          ap (λ n. not (eqb (get_or (get_or patterns k d).numbers class 0) n)) (get_or-set_other chosen pattern k number 0 ne)
          ∙ (sym (class_entry_at patterns chosen same class k d hk) ∙ sym (get_or-set_other old pattern k bit false ne))
    ])

-- ---- one row after another

-- The first `done` of `count` rows are new, and the others are old.
pub record AreSetTo (count : ℕ) (old new : ℕ → List Bool) (done : ℕ) (rows : List (List Bool)) : Type 0 where
  pub count_is : length rows ≡ count
  pub begun : (row : ℕ) → row < done → row_at rows row ≡ new row
  pub rest : (row : ℕ) → done ≤ row → row < count → row_at rows row ≡ old row

pub none_set : (count : ℕ) (old new : ℕ → List Bool) (rows : List (List Bool)) → rows ≡ map old (range_with_len 0 count) → AreSetTo count old new 0 rows
none_set count old new rows are = record {
  count_is = ap length are ∙ length-map-range_with_len old 0 count;
  begun = λ row h. absurd (omega (arith, h));
  rest = λ row from h. ap (λ (xs : List (List Bool)). row_at xs row) are ∙ get_or-map-range_with_len old 0 count row row [] h (omega arith);
}

pub one_set : (count : ℕ) (old new : ℕ → List Bool) (done : ℕ) (rows : List (List Bool)) → AreSetTo count old new done rows → done < count → (row : List Bool) → row ≡ new done → AreSetTo count old new (done + 1) (set rows done row)
one_set count old new done rows are within row is = record {
  count_is = length-set rows done row ∙ are.count_is;
  begun = λ k h. elim (cases_eq k done) [
    | inl e ↦ ap (λ j. row_at (set rows done row) j) e ∙ (get_or-set_same rows done row [] (omega (arith, within, are.count_is)) ∙ (is ∙ ap new (sym e)))
    | inr ne ↦ get_or-set_other rows done k row [] ne ∙ are.begun k (omega (arith, h, ne))
  ];
  rest = λ k from h. get_or-set_other rows done k row [] (λ e. omega (arith, e, from)) ∙ are.rest k (omega (arith, from)) h;
}

pub all_set : (count : ℕ) (old new : ℕ → List Bool) (rows : List (List Bool)) → AreSetTo count old new count rows → rows ≡ map new (range_with_len 0 count)
all_set count old new rows are = ext_get_or [] rows (map new (range_with_len 0 count)) (are.count_is ∙ sym (length-map-range_with_len new 0 count))
    (λ row h. let hr : row < count = omega (arith, h, are.count_is) in are.begun row hr ∙ sym (get_or-map-range_with_len new 0 count row row [] hr (omega arith)))
