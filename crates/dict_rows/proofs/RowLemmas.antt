-- Rows whose bits are written one after another.
use Rattle.std.proofs.Common.{◌≡◌, ◌∙◌, ℕ, ◌+◌, ◌<◌, ◌≤◌, Bool, false, List, [], length, replicate, refl, sym, ap, subst, arith, inl, inr}
use Rattle.std.proofs.lemmas.Bool.{cases_lt, cases_eq}
use Rattle.std.proofs.lemmas.List.{ext_get_or, get_or_default, get_or-replicate, get_or_past, length-replicate}
use Rattle.net_model.specs.Answer.{bit_at}
use Rattle.net_model.proofs.Copies.{same_bits_same_list}
use Rattle.net_model.proofs.Elements.{get_or-replicate_anywhere}
use Rattle.net_model.specs.Rows.{row_at, row_bit, HaveSameShape}
use Rattle.dict_rows.specs.Rows.{AreRows, IsBitSet, IsRowBegun, IsRowSet, AreRowsBegun}

pub same_shape : {rows : List (List Bool)} → HaveSameShape rows rows
same_shape = record { count = refl; widths = λ row. refl }

pub shape_later : {old mid new : List (List Bool)} → HaveSameShape old mid → HaveSameShape mid new → HaveSameShape old new
shape_later one two = record { count = two.count ∙ one.count; widths = λ row. two.widths row ∙ one.widths row }

pub rows_later : {old new : List (List Bool)} {count width : ℕ} → HaveSameShape old new → AreRows count width old → AreRows count width new
rows_later {old} {new} {count} {width} same are = record {
  count_is = same.count ∙ are.count_is;
  width_is = λ k d h. ap length (get_or_default new k d [] h) ∙ (same.widths k ∙ are.width_is k [] (omega (arith, h, same.count)));
}

pub width_at : {rows : List (List Bool)} {count width : ℕ} → AreRows count width rows → (row : ℕ) → row < count → length (row_at rows row) ≡ width
width_at are row h = are.width_is row [] (omega (arith, h, are.count_is))

-- ---- one row, bit by bit

pub begun_none : {rows : List (List Bool)} (row : ℕ) (bits : List Bool) → IsRowBegun rows rows row 0 bits
begun_none row bits = record { shape = same_shape; begun = λ k h. absurd (omega (arith, h)); others = λ r ne. refl }

pub begun_more : {old mid new : List (List Bool)} {row at : ℕ} {bits : List Bool} {bit : Bool} → IsRowBegun old mid row at bits → IsBitSet mid new row at bit → bit ≡ bit_at bits at → IsRowBegun old new row (at + 1) bits
begun_more {old} {mid} {new} {row} {at} {bits} {bit} so_far one is = record {
  shape = shape_later so_far.shape one.shape;
  begun = λ k h. elim (cases_eq k at) [
    | inl same ↦ subst (λ j. row_bit new row j ≡ bit_at bits j) (sym same) (one.here ∙ is)
    | inr ne ↦ one.beside k ne ∙ so_far.begun k (omega (arith, h, ne))
  ];
  others = λ r ne. one.others r ne ∙ so_far.others r ne;
}

pub begun_all : {old new : List (List Bool)} {row at : ℕ} {bits : List Bool} → IsRowBegun old new row at bits → length (row_at old row) ≡ length bits → length bits ≤ at → IsRowSet old new row bits
begun_all {old} {new} {row} {at} {bits} so_far long over =
    let wide : length (row_at new row) ≡ length bits = so_far.shape.widths row ∙ long in
    record { shape = so_far.shape; here = same_bits_same_list (row_at new row) bits wide (λ k h. so_far.begun k (omega (arith, h, wide, over))); others = so_far.others }

-- ---- row by row

pub zeros_are : (count width : ℕ) → AreRows count width (replicate count (replicate width false))
zeros_are count width = record {
  count_is = length-replicate count (replicate width false);
  width_is = λ k d h. ap length (get_or-replicate count k (replicate width false) d (omega (arith, h, length-replicate count (replicate width false)))) ∙ length-replicate width false;
}

pub zeros_begun : {rows : List (List Bool)} (n w count width : ℕ) (wanted : ℕ → List Bool) → rows ≡ replicate n (replicate w false) → n ≡ count → w ≡ width → AreRowsBegun count width 0 wanted rows
zeros_begun {rows} n w count width wanted is counts widths = record {
  are = subst (AreRows count width) (sym is) (subst (λ k. AreRows k width (replicate n (replicate w false))) counts (subst (λ k. AreRows n k (replicate n (replicate w false))) widths (zeros_are n w)));
  begun = λ row h. absurd (omega (arith, h));
}

pub rows_more : {count width done : ℕ} {wanted : ℕ → List Bool} {old new : List (List Bool)} → AreRowsBegun count width done wanted old → IsRowSet old new done (wanted done) → AreRowsBegun count width (done + 1) wanted new
rows_more {count} {width} {done} {wanted} {old} {new} so_far one = record {
  are = rows_later one.shape so_far.are;
  begun = λ row h. elim (cases_eq row done) [
    | inl same ↦ subst (λ j. row_at new j ≡ wanted j) (sym same) one.here
    | inr ne ↦ one.others row ne ∙ so_far.begun row (omega (arith, h, ne))
  ];
}

pub rows_all : {count width done : ℕ} {wanted : ℕ → List Bool} {rows : List (List Bool)} (all : List (List Bool)) → AreRowsBegun count width done wanted rows → count ≤ done → length all ≡ count
    → ((row : ℕ) → row < count → row_at all row ≡ wanted row) → rows ≡ all
rows_all {count} {width} {done} {wanted} {rows} all so_far over long are =
    ext_get_or [] rows all (so_far.are.count_is ∙ sym long) (λ row h. let inside : row < count = omega (arith, h, so_far.are.count_is) in so_far.begun row (omega (arith, inside, over)) ∙ sym (are row inside))

-- ---- zeros

pub zero_bits : (count width row at : ℕ) → row_bit (replicate count (replicate width false)) row at ≡ false
zero_bits count width row at = elim (cases_lt row count) [
  | inl low ↦ ap (λ (r : List Bool). bit_at r at) (get_or-replicate count row (replicate width false) [] low) ∙ get_or-replicate_anywhere width at false
  | inr over ↦ ap (λ (r : List Bool). bit_at r at) (get_or_past (replicate count (replicate width false)) row [] (omega (arith, over, length-replicate count (replicate width false))))
]
