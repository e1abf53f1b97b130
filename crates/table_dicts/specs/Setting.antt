-- A circuit with its faults, patterns, and the classes of these patterns or other ones.
use Rattle.std.specs.Prelude.{◌≡◌, length}
use Rattle.net_model.specs.FaultList.{fault_count}
use Rattle.net_model.specs.PatternRows.{IsTableOf}
use Rattle.table_dicts.specs.declared.setting.Setting.{Setting}
use Rattle.dict_rows.specs.AnswerTable.{Answers, AreAnswerable, AreAnswers}

-- The patterns can be answered, and the classes are those of the circuit and the patterns.
pub record IsSetting (s : Setting) : Type 0 where
  pub answerable : AreAnswerable s.subject.now s.patterns.now
  pub classes : IsTableOf s.subject.now s.patterns.now s.classes.now

-- The patterns can be answered, and the classes are of all the circuit's numbers. They needn't be those of the
-- patterns.
pub record IsScored (s : Setting) : Type 0 where
  pub answerable : AreAnswerable s.subject.now s.patterns.now
  pub numbers : length s.classes.now.class_of ≡ fault_count s.subject.now

-- The answers of all numbers to all patterns.
abbrev pub AreAnswersAt : Setting → Answers → Type 0
AreAnswersAt s t = AreAnswers s.subject.now s.patterns.now t
