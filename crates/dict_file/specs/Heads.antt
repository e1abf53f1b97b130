-- The fields that both versions have, as they are read.
use Rattle.std.specs.Prelude.{◌≡◌, ◌≤◌, ℕ, Bool, List, length}
use Rattle.dict_rows.specs.declared.dict.Dict.{Dict}
use Rattle.dict_rows.specs.declared.dict.DictKind.{DictKind}
use Rattle.dict_file.specs.declared.reading.TheConstants.{DICTIONARY_LIMIT}
use Rattle.dict_file.specs.declared.fault.DictVersion.{DictVersion}
use Rattle.dict_file.specs.declared.head.FileHead.{FileHead}
use Rattle.dict_file.specs.Spelling.{kind_number, version_number}
use Rattle.dict_file.specs.Reading as reading
use Rattle.dict_file.specs.Reading.{head_part}

-- The version is that of the bytes.
abbrev pub IsVersionAt : List ℕ → DictVersion → Type 0
IsVersionAt bytes version = version_number version ≡ reading.version bytes

-- The kind is that of the bytes.
abbrev pub IsKindAt : List ℕ → DictKind → Type 0
IsKindAt bytes kind = kind_number kind ≡ reading.kind bytes

-- The first 19 bytes are right, and these are their fields.
pub record IsDictHead (bytes : List ℕ) (head : FileHead) : Type 0 where
  pub right : (head_part bytes).Right
  pub version_is : IsVersionAt bytes head.version
  pub kind_is : IsKindAt bytes head.kind
  pub positions_are : head.positions ≡ reading.positions bytes
  pub patterns_are : head.patterns ≡ reading.patterns bytes
  pub numbers_are : head.numbers ≡ reading.numbers bytes

-- The bytes aren't too many, and begin with this head of this version.
pub record Begins (bytes : List ℕ) (version : DictVersion) (head : FileHead) : Type 0 where
  pub is : IsDictHead bytes head
  pub version_is : head.version ≡ version
  pub short : length bytes ≤ DICTIONARY_LIMIT

-- The dictionary with the fields of a head, and these baselines, groups and entries.
abbrev pub dict_with : FileHead → List (List Bool) → List ℕ → List (List Bool) → Dict
dict_with head baselines groups entries = record { kind = head.kind; positions = head.positions; patterns = head.patterns; numbers = head.numbers; baselines = baselines; groups = groups; entries = entries }
