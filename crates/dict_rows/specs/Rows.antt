-- Rows of bits of one width.
use Rattle.std.specs.Prelude.{◌≡◌, ◌≢◌, ℕ, ◌+◌, ◌*◌, ◌<◌, Bool, List, length, All}
use Rattle.net_model.specs.Answer.{bit_at}
use Rattle.net_model.specs.Rows.{bit_of, row_at, row_bit, HaveSameShape}

-- There are `count` rows, each of `width` bits.
pub record AreRows (count width : ℕ) (rows : List (List Bool)) : Type 0 where
  pub count_is : length rows ≡ count
  pub width_is : All (λ row. length row ≡ width) rows

-- The new rows have this bit at one place, and are otherwise the old ones.
pub record IsBitSet (old new : List (List Bool)) (row at : ℕ) (bit : Bool) : Type 0 where
  pub shape : HaveSameShape old new
  pub here : row_bit new row at ≡ bit
  pub beside : (k : ℕ) → k ≢ at → row_bit new row k ≡ row_bit old row k
  pub others : (r : ℕ) → r ≢ row → row_at new r ≡ row_at old r

-- The new rows have the first `count` of these bits in one row, and the other rows as before.
pub record IsRowBegun (old new : List (List Bool)) (row count : ℕ) (bits : List Bool) : Type 0 where
  pub shape : HaveSameShape old new
  pub begun : (k : ℕ) → k < count → row_bit new row k ≡ bit_at bits k
  pub others : (r : ℕ) → r ≢ row → row_at new r ≡ row_at old r

-- The new rows have these bits as one row, and the other rows as before.
pub record IsRowSet (old new : List (List Bool)) (row : ℕ) (bits : List Bool) : Type 0 where
  pub shape : HaveSameShape old new
  pub here : row_at new row ≡ bits
  pub others : (r : ℕ) → r ≢ row → row_at new r ≡ row_at old r

-- The new rows have in one row, at each of the first `count` places within it, a bit that a test of the place returns,
-- and the other rows as before.
pub record IsRowTested (answers : ℕ → Bool → Type 0) (old new : List (List Bool)) (row count : ℕ) : Type 0 where
  pub shape : HaveSameShape old new
  pub here : (at : ℕ) → at < count → at < length (row_at old row) → answers at (row_bit new row at)
  pub others : (r : ℕ) → r ≢ row → row_at new r ≡ row_at old r

-- The new rows have `count` of these bits in one row starting at `start`, as far as the row goes, and the other rows
-- and all bits before `start` as before.
pub record AreBitsSet (old new : List (List Bool)) (row start count : ℕ) (bits : ℕ → Bool) : Type 0 where
  pub shape : HaveSameShape old new
  pub here : (k : ℕ) → k < count → start + k < length (row_at old row) → row_bit new row (start + k) ≡ bits k
  pub before : (at : ℕ) → at < start → row_bit new row at ≡ row_bit old row at
  pub others : (r : ℕ) → r ≢ row → row_at new r ≡ row_at old r

-- There are `count` rows of `width` bits, and each of the first `done` rows is the wanted one.
pub record AreRowsBegun (count width done : ℕ) (wanted : ℕ → List Bool) (rows : List (List Bool)) : Type 0 where
  pub are : AreRows count width rows
  pub begun : (row : ℕ) → row < done → row_at rows row ≡ wanted row

-- The word has the bits of a row at 64 places, the lowest place as the lowest bit, and 0 past the end of the row.
pub record IsWordOf (row : List Bool) (word bits : ℕ) : Type 0 where
  pub are : (k : ℕ) → k < 64 → bit_of bits k ≡ bit_at row (word * 64 + k)
