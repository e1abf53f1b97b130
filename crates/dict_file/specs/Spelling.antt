-- The bytes of a dictionary, in either version.
use Rattle.std.specs.Prelude.{◌≡◌, ◌<◌, ◌≤◌, ℕ, Bool, List, ◌∷◌, ◌++◌, flat_map, map, length, codes}
use Rattle.std.specs.List.{range_with_len}
use Rattle.byteorder.specs.Endian.{big_bytes}
use Rattle.dict_rows.specs.declared.dict.Dict.{Dict}
use Rattle.dict_rows.specs.declared.dict.DictKind.{DictKind}
use Rattle.dict_rows.specs.declared.dict.DictKind.TheVariants.{PassFail, Full, SameDiff}
use Rattle.dict_rows.specs.Dictionary.{IsShaped, IsGroupedDict, entry_of}
use Rattle.dict_file.specs.declared.reading.TheConstants.{DICTIONARY_LIMIT}
use Rattle.dict_file.specs.declared.fault.DictVersion.{DictVersion}
use Rattle.dict_file.specs.declared.fault.DictVersion.TheVariants.{One, Two}
use Rattle.dict_file.specs.Packing.{packed_row}

abbrev pub kind_number : DictKind → ℕ
kind_number PassFail = 1
kind_number Full = 2
kind_number SameDiff = 3

abbrev pub version_number : DictVersion → ℕ
version_number One = 1
version_number Two = 2

-- The largest count of positions, patterns or numbers.
abbrev pub limit : ℕ
limit = 67108864

-- The dictionary is grouped and of the right shape, has at most 2^26 positions, patterns and numbers, and at least one
-- number.
pub record HasDictSpelling (d : Dict) : Type 0 where
  pub grouped : IsGroupedDict d
  pub shaped : IsShaped d
  pub positions : d.positions ≤ limit
  pub patterns : d.patterns ≤ limit
  pub numbers : d.numbers ≤ limit
  pub some_number : 0 < d.numbers

-- The bytes of the rows, each up to a whole byte.
abbrev pub packed_rows : List (List Bool) → List ℕ
packed_rows rows = flat_map packed_row rows

-- The magic bytes, the version, the kind and the three counts.
abbrev pub head_bytes : DictVersion → Dict → List ℕ
head_bytes version d = codes "DIAT" ++ (big_bytes 2 (version_number version) ++ (kind_number d.kind ∷ (big_bytes 4 d.positions ++ (big_bytes 4 d.patterns ++ big_bytes 4 d.numbers))))

-- The entry of each number.
abbrev pub entry_rows : Dict → List (List Bool)
entry_rows d = map (entry_of d) (range_with_len 0 d.numbers)

-- The bytes after the head. Version 1 has the baselines and an entry row for each number. Version 2 has the number of
-- groups, the baselines, a group number for each number, and an entry row for each group.
abbrev pub body_bytes : DictVersion → Dict → List ℕ
body_bytes One d = packed_rows d.baselines ++ packed_rows (entry_rows d)
body_bytes Two d = big_bytes 4 (length d.entries) ++ (packed_rows d.baselines ++ (flat_map (big_bytes 4) d.groups ++ packed_rows d.entries))

-- The bytes of a dictionary in a version.
unfoldable pub dict_spelling : DictVersion → Dict → List ℕ
dict_spelling version d = head_bytes version d ++ body_bytes version d

-- The dictionary can be written, these are its bytes in this version, and they aren't too many.
pub record SpellsDict (version : DictVersion) (d : Dict) (bytes : List ℕ) : Type 0 where
  pub has : HasDictSpelling d
  pub bytes_are : bytes ≡ dict_spelling version d
  pub short : length bytes ≤ DICTIONARY_LIMIT

-- The bytes are the file of the dictionary in some version.
abbrev pub IsFileOf : Dict → List ℕ → Type 0
IsFileOf d bytes = (version : DictVersion) × SpellsDict version d bytes
