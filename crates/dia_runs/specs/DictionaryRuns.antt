-- What runs of `dict`, `convert` and `diagnose` leave if their work is done.
use Rattle.std.specs.Prelude.{◌≡◌, ◌≤◌, ◌↔◌, length, Option, Some}
use Rattle.std.specs.FinMap.{get}
use Rattle.diag_shelf.specs.World.{Files, World}
use Rattle.dict_rows.specs.declared.dict.Dict.{Dict}
use Rattle.dict_rows.specs.Dictionary.{listed_numbers}
use Rattle.dict_file.specs.declared.reading.TheConstants.{DICTIONARY_LIMIT}
use Rattle.dict_file.specs.declared.fault.DictVersion.TheVariants.{Two}
use Rattle.dict_file.specs.Spelling.{dict_spelling, IsFileOf}
use Rattle.request_words.specs.declared.request.EntryKind.{EntryKind}
use Rattle.text_fields.specs.Fields.{Text}
use Rattle.request_words.specs.Request.{Request, make_dict, convert, diagnose}
use Rattle.run_steps.specs.Ending.{Ending, done}
use Rattle.dictionary_commands.specs.Texts.{groups_text, numbers_text}
use Rattle.run_steps.specs.Dictionaries.{IsDictionaryFile}
use Rattle.dictionary_commands.specs.Dictionaries.{IsMadeDictionary}
use Rattle.run_steps.specs.Logs.{IsLogFor}
use Rattle.run_steps.specs.Outcome.{Outcome, ConsoleGained}
use Rattle.run_steps.specs.Plan.{CallsFor}
use Rattle.dia_runs.specs.Requests.{plan_of}
use Rattle.dia_runs.specs.Promises.{WasRead, HoldsTrueResult}

-- The result is valid and true. The file of the dictionary's name has version 2 of the dictionary of this kind at the
-- result's patterns, and the console gained its counts.
pub record HasDictionary (kind : EntryKind) (bench result dict : Text) (old new : World) : Type 0 where
  pub read : HoldsTrueResult bench result old.files
  pub file : Text
  pub saved : get new.files dict ≡ Some file
  pub text : Text
  pub made : IsMadeDictionary read.design.circuit kind read.file file text
  pub printed : ConsoleGained text old new

-- If this is a run of `dict` and its work is done, `HasDictionary` holds.
abbrev pub MakesDictionary : Option Request → Ending → World → World → Type 0
MakesDictionary request ending old new = (kind : EntryKind) (bench result dict : Text) → request ≡ Some (make_dict kind bench result dict) → ending ≡ done → HasDictionary kind bench result dict old new

-- The file of the new name has version 2 of the dictionary that was read, and the console gained its counts.
pub record HasConverted (name new_name : Text) (old new : World) : Type 0 where
  pub dictionary : WasRead old.files name IsDictionaryFile
  pub saved : get new.files new_name ≡ Some (dict_spelling Two dictionary.thing)
  pub printed : ConsoleGained (groups_text dictionary.thing.numbers dictionary.thing.patterns (length dictionary.thing.entries)) old new

-- If this is a run of `convert` and its work is done, `HasConverted` holds.
abbrev pub ConvertsDictionary : Option Request → Ending → World → World → Type 0
ConvertsDictionary request ending old new = (name new_name : Text) → request ≡ Some (convert name new_name) → ending ≡ done → HasConverted name new_name old new

-- The console gained the numbers whose entry in the dictionary is that of the log's answers, one to a line, and their
-- count.
pub record HasDiagnosis (dict log : Text) (old new : World) : Type 0 where
  pub dictionary : WasRead old.files dict IsDictionaryFile
  pub observed : WasRead old.files log (IsLogFor dictionary.thing)
  pub printed : ConsoleGained (numbers_text (listed_numbers dictionary.thing observed.thing)) old new

-- If this is a run of `diagnose` and its work is done, `HasDiagnosis` holds.
abbrev pub PrintsDiagnosis : Option Request → Ending → World → World → Type 0
PrintsDiagnosis request ending old new = (dict log : Text) → request ≡ Some (diagnose dict log) → ending ≡ done → HasDiagnosis dict log old new

-- A dictionary and its version 2, within the limit of bytes, are diagnosed alike: with every log a run of `diagnose` by
-- one calls for the same outcomes as a run by the other.
abbrev pub DiagnosesAlike : Type 0
DiagnosesAlike = (files : Files) (first second log bytes : Text) (d : Dict) → get files first ≡ Some bytes → IsFileOf d bytes → get files second ≡ Some (dict_spelling Two d) → length (dict_spelling Two d) ≤ DICTIONARY_LIMIT
    → (o : Outcome) → CallsFor files (plan_of (Some (diagnose first log))) o ↔ CallsFor files (plan_of (Some (diagnose second log))) o
