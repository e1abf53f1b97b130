-- Answers to some of a setting's patterns, and what is chosen for all of them.
use Rattle.std.specs.Prelude.{◌≡◌, ℕ, ◌+◌, ◌-◌, ◌<◌, List, length, slice_index}
use Rattle.table_dicts.specs.declared.setting.Setting.{Setting}
use Rattle.dict_rows.specs.AnswerTable.{Answers, HasSizes, answer_to}
use Rattle.table_dicts.specs.Setting.{IsSetting, AreAnswersAt}
use Rattle.samediff_dict.specs.declared.numbering.Candidates.{Candidates}
use Rattle.samediff_dict.specs.Numbered.{HaveCandidates, AreChosen}

-- The table has what each of the numbers answers to each pattern in the range.
pub record AreAnswersOfNumbers (s : Setting) (numbers : List ℕ) (first end : ℕ) (table : Answers) : Type 0 where
  pub sizes : HasSizes table (end - first) (length numbers) (length s.subject.now.positions)
  pub each : (t : Answers) → AreAnswersAt s t → (pattern place : ℕ) → first + pattern < end → place < length numbers → answer_to table pattern place ≡ answer_to t (first + pattern) (slice_index numbers place)

-- `t` has the setting's answers, `patterns` the candidates of each pattern by them, and `chosen` the number of a
-- candidate for each pattern.
pub record AreChosenOf (s : Setting) (t : Answers) (patterns : List Candidates) (chosen : List ℕ) : Type 0 where
  pub setting : IsSetting s
  pub answers : AreAnswersAt s t
  pub numbered : HaveCandidates s.classes.now t.rows patterns
  pub one_each : length chosen ≡ length t.rows
  pub chosen_are : AreChosen s.classes.now t.rows chosen
