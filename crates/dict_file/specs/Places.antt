-- Rows of a file, as they are read.
use Rattle.std.specs.Prelude.{◌≡◌, ℕ, ◌+◌, ◌-◌, ◌≤◌, ◌<◌, ◌^◌, Bool, List, length, map}
use Rattle.std.specs.List.{range_with_len}
use Rattle.dict_rows.specs.Grouped.{IsFirstRepeat}
use Rattle.dict_file.specs.declared.reading.TheConstants.{DICTIONARY_LIMIT}
use Rattle.dict_file.specs.declared.fault.DictFault.{DictFault}
use Rattle.dict_file.specs.declared.fault.DictFault.TheVariants.{Value}
use Rattle.dict_file.specs.declared.row_bytes.RowsAt.{RowsAt}
use Rattle.dict_file.specs.declared.row_bytes.ReadRows.{ReadRows}
use Rattle.dict_file.specs.Parts.{Part, each}
use Rattle.dict_file.specs.Packing.{byte_count}
use Rattle.dict_file.specs.Reading.{row_start, rows_end, row_of, row_part}

-- The rows begin within bytes that aren't too many, and their sizes are small enough to count with.
pub record IsPlaced (bytes : List ℕ) (rows : RowsAt) : Type 0 where
  pub begins : rows.from ≤ length bytes
  pub short : length bytes ≤ DICTIONARY_LIMIT
  pub narrow : rows.width < 2 ^ 60
  pub few : rows.count < 2 ^ 32

-- The first `count` rows.
abbrev pub first_rows : List ℕ → RowsAt → ℕ → List (List Bool)
first_rows bytes rows count = map (row_of bytes rows) (range_with_len 0 count)

-- The first `right` rows are right, and the next one isn't, if there is one.
pub record AreRightRows (bytes : List ℕ) (rows : RowsAt) (right : ℕ) : Type 0 where
  pub within : right ≤ rows.count
  pub inside : row_start rows right ≤ length bytes
  pub each_is : (k : ℕ) → k < right → (row_part bytes rows k).Right
  pub next : right < rows.count → (row_part bytes rows right).Right → ⊥

-- The first `whole` rows are complete within `len` bytes, and the next one isn't, if there is one.
pub record AreWholeTo (len : ℕ) (rows : RowsAt) (whole : ℕ) : Type 0 where
  pub within : whole ≤ rows.count
  pub inside : row_start rows whole ≤ len
  pub next : whole < rows.count → len < row_start rows whole + byte_count rows.width

-- The rows were read: the part of each is right, and this is where they end, within the bytes.
pub record AreRead (bytes : List ℕ) (part : RowsAt → ℕ → Part) (rows : RowsAt) (read : ReadRows) : Type 0 where
  pub right : (each rows.count (part rows)).Right
  pub rows_are : read.rows ≡ first_rows bytes rows rows.count
  pub end_is : read.end ≡ rows_end rows
  pub within : read.end ≤ length bytes

-- The fault gives the last byte of the first row that is equal to an earlier one.
pub record TellsRepeat (read : List (List Bool)) (rows : RowsAt) (fault : DictFault) : Type 0 where
  pub row : ℕ
  pub repeats : IsFirstRepeat read row
  pub fault_is : fault ≡ Value (row_start rows row + byte_count rows.width - 1)
