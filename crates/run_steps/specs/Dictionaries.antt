-- Which bytes are accepted as a dictionary, and which are refused with which text.
use Rattle.std.specs.Prelude.{◌≡◌, ℕ, Some}
use Rattle.dict_rows.specs.declared.dict.Dict.{Dict}
use Rattle.dict_file.specs.declared.fault.DictFault.{DictFault}
use Rattle.dict_file.specs.Spelling.{IsFileOf}
use Rattle.dict_file.specs.Reading.{IsRefusedBy}
use Rattle.text_fields.specs.Fields.{Text}
use Rattle.run_steps.specs.Texts.{dictionary_rule, dictionary_text}

-- ---- a file

-- The bytes are accepted as this dictionary.
abbrev pub IsDictionaryFile : Text → Dict → Type 0
IsDictionaryFile bytes d = IsFileOf d bytes

-- The bytes are refused as a dictionary, and `console` is the text of the refusal.
pub record IsRefusedDictionary (bytes console : Text) : Type 0 where
  pub fault : DictFault
  pub refused : IsRefusedBy bytes fault
  pub place : Text × ℕ
  pub rule_is : dictionary_rule fault ≡ Some place
  pub console_is : console ≡ dictionary_text place.0 place.1
