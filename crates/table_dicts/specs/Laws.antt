-- Laws of tables.
use Rattle.std.specs.Prelude.{◌≡◌, Bool, List}
use Rattle.net_model.specs.Circuit.{Circuit, IsCircuit}
use Rattle.dict_rows.specs.AnswerTable.{Answers, AreAnswers}

-- A circuit has exactly one table of answers to patterns.
abbrev pub HaveOneTable : Type 0
HaveOneTable = (c : Circuit) (patterns : List (List Bool)) → IsCircuit c → (t : Answers) × AreAnswers c patterns t × ((other : Answers) → AreAnswers c patterns other → other ≡ t)
