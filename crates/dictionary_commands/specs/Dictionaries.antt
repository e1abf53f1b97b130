-- Which dictionary is made from a result, and what is printed of a dictionary.
use Rattle.std.specs.Prelude.{◌≡◌, ◌≤◌, ℕ, ◌-◌, ◌*◌, ◌/◌, Bool, List, length, slice_set}
use Rattle.net_model.specs.Circuit.{Circuit}
use Rattle.net_model.specs.ClassTable.{ClassTable, class_count}
use Rattle.net_model.specs.PatternRows.{IsTableOf}
use Rattle.result_records.specs.declared.record.Record.{Record}
use Rattle.result_records.specs.Spelling.{text_of}
use Rattle.result_records.specs.Marks.{patterns_in}
use Rattle.result_file.specs.Valid.{IsValid}
use Rattle.dict_rows.specs.declared.dict.Dict.{Dict}
use Rattle.dict_rows.specs.AnswerTable.{Answers, AreAnswers}
use Rattle.dict_rows.specs.Dictionary.{entry_of, listed_numbers, IsPassFail, IsFull, IsSameDiff}
use Rattle.table_dicts.specs.Apart.{apart_count}
use Rattle.samediff_dict.specs.Chosen.{chosen_baselines}
use Rattle.dict_file.specs.declared.fault.DictVersion.TheVariants.{Two}
use Rattle.dict_file.specs.Spelling.{dict_spelling}
use Rattle.request_words.specs.declared.request.EntryKind.{EntryKind}
use Rattle.request_words.specs.declared.request.EntryKind.TheVariants.{PassFail, Full, SameDiff}
use Rattle.text_fields.specs.Fields.{Text}
use Rattle.dictionary_commands.specs.Texts.{apart_text, groups_text, numbers_text}

-- ---- what is made

-- The dictionary is the one of this kind for these answers. A same/different one has the baselines that are chosen for
-- these classes.
abbrev pub IsOfAnswers : EntryKind → ClassTable → Answers → Dict → Type 0
IsOfAnswers PassFail classes answers d = IsPassFail answers d
IsOfAnswers Full classes answers d = IsFull answers d
IsOfAnswers SameDiff classes answers d = IsSameDiff answers (chosen_baselines classes answers.rows) d

-- The dictionary is of this kind, and has the entries of all numbers of the circuit at these patterns. A same/different
-- one has the baselines that are chosen for these classes, which needn't be those of the patterns.
pub record IsOfPatterns (c : Circuit) (kind : EntryKind) (patterns : List (List Bool)) (classes : ClassTable) (d : Dict) : Type 0 where
  pub answers : Answers
  pub are : AreAnswers c patterns answers
  pub is : IsOfAnswers kind classes answers d

-- How many pairs of classes the dictionary keeps apart.
abbrev pub pairs_kept : ClassTable → Dict → ℕ
pairs_kept classes d = apart_count classes (entry_of d)

-- What is printed of a dictionary and the classes of its patterns.
abbrev pub dictionary_counts : Dict → ClassTable → Text
dictionary_counts d t = apart_text d.numbers d.patterns (class_count t) (pairs_kept t d)

-- How many pairs of `n` things there are.
abbrev pub pair_count : ℕ → ℕ
pair_count n = n * (n - 1) / 2

-- Among the dictionaries at these patterns no pass/fail one keeps more pairs of classes apart than this one, and no
-- same/different one does that has any row, of as many bits, in place of one of its baselines.
pub record KeepsMostApart (c : Circuit) (patterns : List (List Bool)) (classes : ClassTable) (d : Dict) : Type 0 where
  pub by_free : (other : Dict) → IsOfPatterns c PassFail patterns classes other → pairs_kept classes other ≤ pairs_kept classes d
  pub by_row : (answers : Answers) (pattern : ℕ) (row : List Bool) (other : Dict) → AreAnswers c patterns answers → IsSameDiff answers (slice_set d.baselines pattern row) other → pairs_kept classes other ≤ pairs_kept classes d

-- The file is version 2 of the dictionary of this kind at these patterns, and the text is what is printed of it and of
-- the classes of the patterns. A full dictionary keeps each pair of classes apart, and a same/different one the most,
-- as `KeepsMostApart` has it.
pub record IsMadeOf (c : Circuit) (kind : EntryKind) (patterns : List (List Bool)) (classes : ClassTable) (file text : Text) : Type 0 where
  pub dictionary : Dict
  pub entries : IsOfPatterns c kind patterns classes dictionary
  pub file_is : file ≡ dict_spelling Two dictionary
  pub text_is : text ≡ dictionary_counts dictionary classes
  pub all_apart : kind ≡ Full → pairs_kept classes dictionary ≡ pair_count (class_count classes)
  pub most_apart : kind ≡ SameDiff → KeepsMostApart c patterns classes dictionary

-- The file is version 2 of the dictionary of this kind at the patterns of a valid result for the circuit, and the text
-- is what is printed of it and of the classes of the patterns.
pub record IsMadeDictionary (c : Circuit) (kind : EntryKind) (result file text : Text) : Type 0 where
  pub records : List Record
  pub spelled : result ≡ text_of records
  pub valid : IsValid c records
  pub classes : ClassTable
  pub table : IsTableOf c (patterns_in records) classes
  pub made : IsMadeOf c kind (patterns_in records) classes file text

-- The file has the dictionary in version 2, and the text is what is printed of it.
pub record IsConverted (d : Dict) (file text : Text) : Type 0 where
  pub file_is : file ≡ dict_spelling Two d
  pub text_is : text ≡ groups_text d.numbers d.patterns (length d.entries)

-- The text lists the numbers whose entry in the dictionary is that of these observed answers.
abbrev pub IsDiagnosis : Dict → List (List Bool) → Text → Type 0
IsDiagnosis d observed text = text ≡ numbers_text (listed_numbers d observed)
