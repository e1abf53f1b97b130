-- What a valid result gives for a dictionary at its patterns.
use Rattle.std.proofs.Common.{◌≡◌, ◌∙◌, Bool, List, Result, length, sym, subst}
use Rattle.std.specs.Prelude.{IfOk}
use Rattle.std.proofs.lemmas.Result.{IfOk-weaker}
use Rattle.net_model.specs.Circuit.{Circuit}
use Rattle.net_model.specs.ClassTable.{ClassTable}
use Rattle.net_model.specs.PatternRows.{IsTableOf}
use Rattle.class_refine.proofs.PatternTables.{table_numbers}
use Rattle.dict_rows.specs.declared.dict.Dict.{Dict}
use Rattle.dict_rows.specs.AnswerTable.{Answers, AreAnswers}
use Rattle.dict_rows.specs.Dictionary.{IsGroupedDict, IsShaped}
use Rattle.request_words.specs.declared.request.EntryKind.{EntryKind}
use Rattle.request_words.specs.declared.request.EntryKind.TheVariants.{PassFail, Full, SameDiff}
use Rattle.dictionary_commands.specs.Dictionaries.{IsOfPatterns, IsOfAnswers}
use Rattle.run_steps.proofs.CheckedLemmas.{answers_of_table, are_answers}

-- ---- the dictionary of a kind

of_patterns : {c : Circuit} {patterns : List (List Bool)} {t : ClassTable} (kind : EntryKind) {d : Dict} → IsTableOf c patterns t → ((answers : Answers) → AreAnswers c patterns answers → IsOfAnswers kind t answers d) → IsOfPatterns c kind patterns t d
of_patterns {c} {patterns} {t} kind {d} is made = record { answers = answers_of_table is; are = are_answers is; is = made (answers_of_table is) (are_answers is) }

-- A dictionary that is of a kind for all answers to the patterns is of the kind that was asked for, if both kinds are
-- the same.
pub kind_made : {c : Circuit} {patterns : List (List Bool)} {t : ClassTable} {asked kind : EntryKind} {E : Type 0} (made : Result Dict E) → asked ≡ kind → IsTableOf c patterns t → IfOk made (λ (d : Dict). (answers : Answers) → AreAnswers c patterns answers → IsOfAnswers kind t answers d) → IfOk made (IsOfPatterns c asked patterns t)
kind_made {c} {patterns} {t} {asked} {kind} {E} made is table of_answers =
    subst (λ (k : EntryKind). IfOk made (IsOfPatterns c k patterns t)) (sym is)
    (IfOk-weaker made (λ (d : Dict). (answers : Answers) → AreAnswers c patterns answers → IsOfAnswers kind t answers d) (IsOfPatterns c kind patterns t) (λ d all. of_patterns kind table all) of_answers)

grouped_by : (kind : EntryKind) (t : ClassTable) (answers : Answers) (d : Dict) → IsOfAnswers kind t answers d → IsGroupedDict d × IsShaped d × (d.numbers ≡ answers.numbers)
grouped_by PassFail t answers d is = (is.grouped, is.shaped, is.numbers_are)
grouped_by Full t answers d is = (is.grouped, is.shaped, is.numbers_are)
grouped_by SameDiff t answers d is = (is.grouped, is.shaped, is.numbers_are)

module _ {c : Circuit} {kind : EntryKind} {patterns : List (List Bool)} {t : ClassTable} {d : Dict} (is : IsOfPatterns c kind patterns t d) where
  pub grouped_of : IsGroupedDict d
  grouped_of = (grouped_by kind t is.answers d is.is).0

  pub shaped_of : IsShaped d
  shaped_of = (grouped_by kind t is.answers d is.is).1

  -- The classes have as many numbers as the dictionary.
  pub numbers_of : IsTableOf c patterns t → length t.class_of ≡ d.numbers
  numbers_of table = table_numbers table ∙ (sym is.are.numbers ∙ sym (grouped_by kind t is.answers d is.is).2)
