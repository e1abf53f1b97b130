-- Laws: bytes are the file of at most one dictionary, or refused for at most one fault, and never both.
use Rattle.std.specs.Prelude.{◌≡◌, ◌≤◌, ℕ, List, length}
use Rattle.dict_rows.specs.declared.dict.Dict.{Dict}
use Rattle.dict_file.specs.declared.reading.TheConstants.{DICTIONARY_LIMIT}
use Rattle.dict_file.specs.declared.fault.DictFault.{DictFault}
use Rattle.dict_file.specs.declared.fault.DictVersion.{DictVersion}
use Rattle.dict_file.specs.declared.fault.DictVersion.TheVariants.{Two}
use Rattle.dict_file.specs.Spelling.{dict_spelling, SpellsDict, IsFileOf}
use Rattle.dict_file.specs.Reading.{IsRefusedBy}

-- Refused bytes are no dictionary's file.
abbrev pub RefusedIsWrong : Type 0
RefusedIsWrong = (bytes : List ℕ) (d : Dict) (fault : DictFault) → IsRefusedBy bytes fault → ¬ IsFileOf d bytes

-- Bytes are refused for at most one fault.
abbrev pub OneFault : Type 0
OneFault = (bytes : List ℕ) (fault other : DictFault) → IsRefusedBy bytes fault → IsRefusedBy bytes other → fault ≡ other

-- Bytes are the file of at most one dictionary, in one version.
abbrev pub OneDictionary : Type 0
OneDictionary = (bytes : List ℕ) (version other : DictVersion) (d e : Dict) → SpellsDict version d bytes → SpellsDict other e bytes → (version ≡ other) × (d ≡ e)

-- A dictionary that has a file has one in version 2, if that isn't too long.
abbrev pub Respelled : Type 0
Respelled = (bytes : List ℕ) (d : Dict) → IsFileOf d bytes → length (dict_spelling Two d) ≤ DICTIONARY_LIMIT → IsFileOf d (dict_spelling Two d)
