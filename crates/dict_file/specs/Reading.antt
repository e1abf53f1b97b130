-- What bytes must be to be a dictionary's file, part by part in the order of the file, and the first fault if they
-- aren't.
use Rattle.std.specs.Prelude.{◌≡◌, ◌≢◌, ℕ, ◌+◌, ◌-◌, ◌*◌, ◌<◌, ◌≤◌, ◌⊎◌, ◌==◌, Bool, List, length, map, take, drop, codes, slice_index, Contains, if◌then◌else◌}
use Rattle.std.specs.List.{range_with_len}
use Rattle.byteorder.specs.Endian.{big_number}
use Rattle.dict_rows.specs.Grouped.{IsLeastUnused}
use Rattle.dict_file.specs.declared.reading.TheConstants.{DICTIONARY_LIMIT}
use Rattle.dict_file.specs.declared.fault.DictFault.{DictFault}
use Rattle.dict_file.specs.declared.fault.DictFault.TheVariants.{Magic, Version, Kind, Value, Trailing, TooLong, NoMemory}
use Rattle.dict_file.specs.declared.row_bytes.RowsAt.{RowsAt}
use Rattle.dict_file.specs.Packing.{byte_count, row_in, HasZeroPadding}
use Rattle.dict_file.specs.Spelling.{limit}
use Rattle.dict_file.specs.Parts.{Part, wants, reaches, ◌⊳◌, each, when}

-- ---- rows

-- The place of the first byte of row `k`.
abbrev pub row_start : RowsAt → ℕ → ℕ
row_start rows k = rows.from + k * byte_count rows.width

-- The place after the last row.
abbrev pub rows_end : RowsAt → ℕ
rows_end rows = row_start rows rows.count

-- The bits of row `k`.
abbrev pub row_of : List ℕ → RowsAt → ℕ → List Bool
row_of bytes rows k = row_in bytes (row_start rows k) rows.width

-- A row must be complete, and its padding must be zeros.
abbrev pub row_part : List ℕ → RowsAt → ℕ → Part
row_part bytes rows k = reaches bytes (row_start rows k + byte_count rows.width) ⊳ wants (HasZeroPadding bytes (row_start rows k) rows.width) (Value (row_start rows k + byte_count rows.width - 1))

-- The row isn't equal to an earlier one.
abbrev pub IsNewRow : List ℕ → RowsAt → ℕ → Type 0
IsNewRow bytes rows k = (j : ℕ) → j < k → row_of bytes rows j ≢ row_of bytes rows k

-- A row must be right, and must not be equal to an earlier one.
abbrev pub new_row_part : List ℕ → RowsAt → ℕ → Part
new_row_part bytes rows k = row_part bytes rows k ⊳ wants (IsNewRow bytes rows k) (Value (row_start rows k + byte_count rows.width - 1))

module _ (bytes : List ℕ) where
  -- ---- fields

  -- The number of four bytes.
  abbrev pub number_at : ℕ → ℕ
  number_at from = big_number 4 (drop from bytes)

  abbrev pub version : ℕ
  version = big_number 2 (drop 4 bytes)

  abbrev pub kind : ℕ
  kind = slice_index bytes 6

  abbrev pub positions : ℕ
  positions = number_at 7

  abbrev pub patterns : ℕ
  patterns = number_at 11

  abbrev pub numbers : ℕ
  numbers = number_at 15

  -- The count at this byte must be at most the limit.
  abbrev pub count_part : ℕ → Part
  count_part from = reaches bytes (from + 4) ⊳ wants (number_at from ≤ limit) (Value from)

  abbrev pub magic_part : Part
  magic_part = reaches bytes 4 ⊳ wants (take 4 bytes ≡ codes "DIAT") Magic

  abbrev pub version_part : Part
  version_part = reaches bytes 6 ⊳ wants ((version ≡ 1) ⊎ (version ≡ 2)) Version

  abbrev pub kind_part : Part
  kind_part = reaches bytes 7 ⊳ wants ((kind ≡ 1) ⊎ ((kind ≡ 2) ⊎ (kind ≡ 3))) Kind

  -- The first 19 bytes must be right.
  abbrev pub head_part : Part
  head_part = magic_part ⊳ version_part ⊳ kind_part ⊳ count_part 7 ⊳ count_part 11 ⊳ count_part 15 ⊳ wants (0 < numbers) (Value 15)

  -- ---- where the rows are

  -- The number of baselines.
  abbrev pub read_baseline_count : ℕ
  read_baseline_count = if kind == 2 then 0 else patterns

  -- The number of bits of an entry.
  abbrev pub read_entry_width : ℕ
  read_entry_width = if kind == 2 then patterns * positions else patterns

  abbrev pub baseline_rows_at : ℕ → RowsAt
  baseline_rows_at from = record { from = from; count = read_baseline_count; width = positions }

  abbrev pub baselines_part : ℕ → Part
  baselines_part from = each read_baseline_count (row_part bytes (baseline_rows_at from))

  abbrev pub entries_at : ℕ → ℕ → RowsAt
  entries_at from count = record { from = from; count = count; width = read_entry_width }

  -- No byte may follow.
  abbrev pub end_part : ℕ → Part
  end_part end = wants (length bytes ≤ end) (Trailing end)

  -- ---- version 1

  abbrev pub entries_one : RowsAt
  entries_one = entries_at (rows_end (baseline_rows_at 19)) numbers

  abbrev pub part_one : Part
  part_one = baselines_part 19 ⊳ each numbers (row_part bytes entries_one) ⊳ end_part (rows_end entries_one)

  -- ---- version 2

  -- The number of groups that the file states.
  abbrev pub groups : ℕ
  groups = number_at 19

  -- There is at least one group, there are at most as many as numbers, and there is only one if an entry has no bits.
  pub record IsGroupCount : Type 0 where
    pub some : 0 < groups
    pub few : groups ≤ numbers
    pub one : read_entry_width ≡ 0 → groups ≤ 1

  abbrev pub group_count_part : Part
  group_count_part = reaches bytes 23 ⊳ wants IsGroupCount (Value 19)

  abbrev pub groups_from : ℕ
  groups_from = rows_end (baseline_rows_at 23)

  -- The group of a number.
  abbrev pub group_at : ℕ → ℕ
  group_at number = number_at (groups_from + 4 * number)

  -- The groups of the numbers before one.
  abbrev pub groups_before : ℕ → List ℕ
  groups_before number = map group_at (range_with_len 0 number)

  -- The group of a number came before, or is the least one not used before, and it is below the stated number of
  -- groups.
  pub record IsGroupNumber (number : ℕ) : Type 0 where
    pub next : Contains (groups_before number) (group_at number) ⊎ IsLeastUnused (groups_before number) (group_at number)
    pub known : group_at number < groups

  abbrev pub group_part : ℕ → Part
  group_part number = reaches bytes (groups_from + 4 * number + 4) ⊳ wants (IsGroupNumber number) (Value (groups_from + 4 * number))

  -- Each group is used.
  abbrev pub AreUsed : Type 0
  AreUsed = (group : ℕ) → group < groups → Contains (groups_before numbers) group

  -- The group numbers must be right, and each group must be among them.
  abbrev pub groups_part : Part
  groups_part = each numbers group_part ⊳ wants AreUsed (Value (groups_from + 4 * (numbers - 1)))

  abbrev pub entries_two : RowsAt
  entries_two = entries_at (groups_from + 4 * numbers) groups

  abbrev pub part_two : Part
  part_two = group_count_part ⊳ baselines_part 23 ⊳ groups_part ⊳ each groups (new_row_part bytes entries_two) ⊳ end_part (rows_end entries_two)

  -- ---- the file

  -- The parts of a file in their order: not too many bytes, the head, and the parts of its version.
  abbrev pub file_part : Part
  file_part = wants (length bytes ≤ DICTIONARY_LIMIT) (TooLong DICTIONARY_LIMIT) ⊳ head_part ⊳ when (version ≡ 1) part_one ⊳ when (version ≡ 2) part_two

  -- The bytes are refused for this fault, which is that of the first part that isn't right.
  pub record IsRefusedBy (fault : DictFault) : Type 0 where
    pub refused : file_part.Refused fault

-- The fault is one for which something is refused, unless it is `NoMemory`.
abbrev pub TellsDictFault : (DictFault → Type 0) → DictFault → Type 0
TellsDictFault Refused fault = fault ≢ NoMemory → Refused fault
