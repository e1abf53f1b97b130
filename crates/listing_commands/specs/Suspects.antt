-- What is made from a result, or printed of a result and a log.
use Rattle.std.specs.Prelude.{◌≡◌, ℕ, ◌<◌, ◌≤◌, Bool, List, length, sum_by, count_by, Any, Contains, IsTrue}
use Rattle.net_model.specs.Circuit.{Circuit}
use Rattle.net_model.specs.ClassTable.{ClassTable, class_at, representative}
use Rattle.net_model.specs.PatternRows.{IsTableOf}
use Rattle.result_records.specs.Marks.{patterns_in}
use Rattle.dict_rows.specs.AnswerTable.{Answers, AreAnswers}
use Rattle.diagnose.specs.Lines.{text_limit}
use Rattle.ranked_diag.specs.PartialLog.{Line}
use Rattle.suspect_scores.specs.declared.suspect.Suspect.{Suspect}
use Rattle.suspect_scores.specs.declared.choices.Choice.{Choice}
use Rattle.suspect_scores.specs.Scores.{failing, explains}
use Rattle.suspect_scores.specs.Listed.{AreSuspects}
use Rattle.suspect_scores.specs.Covering.{IsCover}
use Rattle.suspect_scores.specs.Expected.{expected_text}
use Rattle.suspect_scores.specs.Laws.{own_lines, AnswersOtherwise, AreAlikeIn, StandsFirst, ScoreAlike, is_explained, IsReadBack, ListsNothing}
use Rattle.text_fields.specs.Fields.{Text}
use Rattle.run_steps.specs.ResultLogs.{AreValidBytes}
use Rattle.listing_commands.specs.Texts.{expected_counts_text, suspects_text, cover_text}

-- The circuit has answers to the patterns, and the members of a class answer alike.
pub record ClassesAnswerAlike (c : Circuit) (patterns : List (List Bool)) (classes : ClassTable) : Type 0 where
  pub table : Answers
  pub answers : AreAnswers c patterns table
  pub alike : AreAlikeIn classes table

-- ---- the log that a chip without a fault gives

-- The file is the log that a chip without a fault gives to these patterns, and the text is what is printed of it.
-- Within the limit of bytes the log is read back. With it no pattern fails, and nothing is listed.
pub record IsExpectedOf (c : Circuit) (patterns : List (List Bool)) (classes : ClassTable) (file text : Text) : Type 0 where
  pub table : Answers
  pub answers : AreAnswers c patterns table
  pub file_is : file ≡ expected_text table
  pub text_is : text ≡ expected_counts_text (length patterns) (length c.positions)
  pub read_back : length file ≤ text_limit → IsReadBack table
  pub nothing : ListsNothing classes table

-- The file is the log that a chip without a fault gives to the patterns of a valid result for the circuit, and the text
-- is what is printed of it.
pub record IsExpectedLog (c : Circuit) (result file text : Text) : Type 0 where
  pub of : AreValidBytes c result
  pub classes : ClassTable
  pub classes_are : IsTableOf c (patterns_in of.records) classes
  pub expected : IsExpectedOf c (patterns_in of.records) classes file text

-- ---- suspects

-- The text lists the suspects of a log at these patterns with these classes, at most `most` of them. The members of a
-- class have the score of their representative. If the log is the whole log of the own answers of a number that answers
-- some pattern otherwise than number 0, and `most` isn't 0, the class of that number comes first.
pub record AreSuspectsOf (c : Circuit) (patterns : List (List Bool)) (classes : ClassTable) (lines : List Line) (most : ℕ) (text : Text) : Type 0 where
  pub table : Answers
  pub answers : AreAnswers c patterns table
  pub listed : List Suspect
  pub suspects : AreSuspects classes table lines most listed
  pub text_is : text ≡ suspects_text listed (length (failing table lines)) (length lines)
  pub members : (number : ℕ) → number < table.numbers → ScoreAlike table lines number (representative classes (class_at classes number))
  pub single : (number : ℕ) → number < table.numbers → lines ≡ own_lines table number → AnswersOtherwise table number → 0 < most → StandsFirst classes table lines number listed

-- The text lists the suspects of a log, at most `most` of them, at the patterns of a valid result for the circuit with
-- their classes.
pub record IsSuspectsText (c : Circuit) (result : Text) (lines : List Line) (most : ℕ) (text : Text) : Type 0 where
  pub of : AreValidBytes c result
  pub classes : ClassTable
  pub classes_are : IsTableOf c (patterns_in of.records) classes
  pub are : AreSuspectsOf c (patterns_in of.records) classes lines most text

-- ---- covers

-- The text lists the cover of a log, at these patterns with these classes. Each failing pattern that any number
-- explains is explained by a number of the cover, and the counts sum to the number of these patterns.
pub record IsCoverOf (c : Circuit) (patterns : List (List Bool)) (classes : ClassTable) (lines : List Line) (text : Text) : Type 0 where
  pub table : Answers
  pub answers : AreAnswers c patterns table
  pub choices : List Choice
  pub cover : IsCover classes table lines choices
  pub text_is : text ≡ cover_text choices (length (failing table lines))
  pub each : (line : Line) (number : ℕ) → Contains (failing table lines) line → number < table.numbers → IsTrue (explains table number line) → Any (λ choice. IsTrue (explains table choice.number line)) choices
  pub counts : sum_by (λ choice. choice.explained) choices ≡ count_by (is_explained table) (failing table lines)

-- The text lists the cover of a log, at the patterns of a valid result for the circuit with their classes.
pub record IsCoverText (c : Circuit) (result : Text) (lines : List Line) (text : Text) : Type 0 where
  pub of : AreValidBytes c result
  pub classes : ClassTable
  pub classes_are : IsTableOf c (patterns_in of.records) classes
  pub covers : IsCoverOf c (patterns_in of.records) classes lines text
