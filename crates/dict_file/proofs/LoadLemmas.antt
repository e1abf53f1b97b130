-- Rows that are written word by word.
use Rattle.std.proofs.Common.{◌≡◌, ◌≢◌, ◌∙◌, ℕ, ◌+◌, ◌-◌, ◌*◌, ◌/◌, ◌%◌, ◌<◌, ◌≤◌, Bool, false, List, length, get_or, refl, ap, arith, inl, inr}
use Rattle.std.specs.Int.{div_ceil}
use Rattle.std.proofs.lemmas.Bool.{cases_eq}
use Rattle.std.proofs.lemmas.List.FromFn.{fill_by_all}
use Rattle.net_model.specs.Rows.{bit_of, HaveSameShape, IsWordSet, row_at, row_bit}
use Rattle.dict_rows.specs.Rows.{IsRowSet}
use Rattle.dict_rows.proofs.RowLemmas.{same_shape, shape_later}
use Rattle.dict_file.specs.Packing.{file_bit, row_in}
use Rattle.dict_file.specs.Words.{IsWordAt}

-- The new rows have the bits of a file in the first `words` words of a row, and the other rows as before.
pub record IsRowLoading (old new : List (List Bool)) (row words : ℕ) (bytes : List ℕ) (start : ℕ) : Type 0 where
  pub shape : HaveSameShape old new
  pub begun : (at : ℕ) → at < length (row_at old row) → at / 64 < words → row_bit new row at ≡ file_bit bytes start at
  pub others : (r : ℕ) → r ≢ row → row_at new r ≡ row_at old r

pub loading_none : (rows : List (List Bool)) (row : ℕ) (bytes : List ℕ) (start : ℕ) → IsRowLoading rows rows row 0 bytes start
loading_none rows row bytes start = record { shape = same_shape; begun = λ at h w. absurd (omega (arith, w)); others = λ r ne. refl }

pub loading_more : {old mid new : List (List Bool)} {row word bits : ℕ} {bytes : List ℕ} {start : ℕ} → IsRowLoading old mid row word bytes start → IsWordAt bytes (start + word * 8) bits → IsWordSet mid new row word bits
    → IsRowLoading old new row (word + 1) bytes start
loading_more {old} {mid} {new} {row} {word} {bits} {bytes} {start} so_far is one = record {
  shape = shape_later so_far.shape one.shape;
  begun = λ at h w. elim (cases_eq (at / 64) word) [
    | inl same ↦
        let place : start + word * 8 + at % 64 / 8 ≡ start + at / 8 = omega (arith, same) in
        let turn : at % 64 % 8 ≡ at % 8 = omega arith in
        one.here at (omega (arith, h, so_far.shape.widths row)) same ∙ (is (at % 64) (omega arith)
        ∙ (ap (λ k. bit_of (get_or bytes k 0) (7 - at % 64 % 8)) place ∙ ap (λ j. bit_of (get_or bytes (start + at / 8) 0) (7 - j)) turn))
    | inr ne ↦ one.beside at ne ∙ so_far.begun at h (omega (arith, w, ne))
  ];
  others = λ r ne. one.others r ne ∙ so_far.others r ne;
}

pub loading_all : {old new : List (List Bool)} {row words : ℕ} {bytes : List ℕ} {start : ℕ} → IsRowLoading old new row words bytes start → div_ceil (length (row_at old row)) 64 ≤ words
    → IsRowSet old new row (row_in bytes start (length (row_at old row)))
loading_all {old} {new} {row} {words} {bytes} {start} so_far all = record {
  shape = so_far.shape;
  here = fill_by_all (λ at. file_bit bytes start at) (row_at new row) (length (row_at old row)) false (so_far.shape.widths row) (λ at h. so_far.begun at h (omega (arith, h, all)));
  others = so_far.others;
}
