-- What is printed or made from a result and vectors that were applied; a log has the numbers of these vectors.
use Rattle.std.specs.Prelude.{◌≡◌, ℕ, ◌<◌, Bool, List, ◌++◌, length}
use Rattle.net_model.specs.Circuit.{Circuit}
use Rattle.net_model.specs.ClassTable.{ClassTable, class_at, representative}
use Rattle.net_model.specs.FaultList.{fault_count}
use Rattle.kept_vectors.specs.Kept.{nothing_kept, Keeps}
use Rattle.kept_vectors.specs.Laws.{IsPartedBy}
use Rattle.result_records.specs.Marks.{patterns_in}
use Rattle.dict_rows.specs.AnswerTable.{Answers, AreAnswers}
use Rattle.ranked_diag.specs.PartialLog.{Line}
use Rattle.suspect_scores.specs.declared.suspect.Suspect.{Suspect}
use Rattle.suspect_scores.specs.Scores.{failing}
use Rattle.suspect_scores.specs.Listed.{AreSuspects}
use Rattle.suspect_scores.specs.Laws.{own_lines, AnswersOtherwise, ScoreAlike, StandsFirstAlike}
use Rattle.bridging_faults.specs.Printed.{AreBridgesOf}
use Rattle.text_fields.specs.Fields.{Text}
use Rattle.run_steps.specs.ResultLogs.{AreValidBytes}
use Rattle.listing_commands.specs.Suspects.{IsExpectedOf, IsCoverOf}
use Rattle.listing_commands.specs.Texts.{suspects_text}

-- The table has the classes that the patterns of a valid result and the vectors make together.
pub record AreClassesWith (c : Circuit) (result : Text) (vectors : List (List Bool)) (t : ClassTable) : Type 0 where
  pub of : AreValidBytes c result
  pub kept : List (List Bool)
  pub keeps : Keeps c (patterns_in of.records ++ vectors) (nothing_kept (fault_count c)) (record { vectors = kept; table = t })
  -- Two numbers are of one class exactly if they answer alike to each pattern and vector.
  pub parted : IsPartedBy c (patterns_in of.records ++ vectors) t

-- ---- suspects

-- The text lists the suspects of a log of these vectors by these classes, at most `most` of them. The members of a
-- class have the score of their representative. If the log is the whole log of the own answers of a number that answers
-- some vector otherwise than number 0, and `most` isn't 0, a suspect that answers as that number comes first.
pub record AreSuspectsAt (c : Circuit) (vectors : List (List Bool)) (classes : ClassTable) (lines : List Line) (most : ℕ) (text : Text) : Type 0 where
  pub table : Answers
  pub answers : AreAnswers c vectors table
  pub listed : List Suspect
  pub suspects : AreSuspects classes table lines most listed
  pub text_is : text ≡ suspects_text listed (length (failing table lines)) (length lines)
  pub members : (number : ℕ) → number < table.numbers → ScoreAlike table lines number (representative classes (class_at classes number))
  pub single : (number : ℕ) → number < table.numbers → lines ≡ own_lines table number → AnswersOtherwise table number → 0 < most → StandsFirstAlike table lines number listed

-- The text lists the suspects of a log of these vectors, at most `most` of them, by the classes that a valid result for
-- the circuit and the vectors make together.
pub record IsSuspectsAt (c : Circuit) (result : Text) (vectors : List (List Bool)) (lines : List Line) (most : ℕ) (text : Text) : Type 0 where
  pub classes : ClassTable
  pub classes_are : AreClassesWith c result vectors classes
  pub are : AreSuspectsAt c vectors classes lines most text

-- ---- covers

-- The text lists the cover of a log of these vectors, by the classes that a valid result for the circuit and the
-- vectors make together.
pub record IsCoverAt (c : Circuit) (result : Text) (vectors : List (List Bool)) (lines : List Line) (text : Text) : Type 0 where
  pub classes : ClassTable
  pub classes_are : AreClassesWith c result vectors classes
  pub covers : IsCoverOf c vectors classes lines text

-- ---- the log that a chip without a fault gives

-- The file is the log that a chip without a fault gives to these vectors, and the text is what is printed of it,
-- whatever the classes are.
pub record IsExpectedAt (c : Circuit) (vectors : List (List Bool)) (file text : Text) : Type 0 where
  pub each : (classes : ClassTable) → IsExpectedOf c vectors classes file text

-- ---- bridges

-- The text lists the bridges of a log of these vectors, by the names of their lines. The result is valid for the
-- circuit, and nothing else of it matters.
pub record IsBridgesAt (c : Circuit) (names : List Text) (result : Text) (vectors : List (List Bool)) (lines : List Line) (within most : ℕ) (text : Text) : Type 0 where
  pub of : AreValidBytes c result
  pub are : AreBridgesOf c names vectors lines within most text
