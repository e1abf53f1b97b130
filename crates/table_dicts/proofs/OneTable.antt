-- A circuit's answers to patterns have one table.
use Rattle.std.proofs.Common.{◌≡◌, ◌∙◌, ℕ, Bool, List, length, refl, sym}
use Rattle.net_model.specs.Circuit.{Circuit, IsCircuit}
use Rattle.net_model.specs.FaultList.{fault_count}
use Rattle.net_model.proofs.OneAnswer.{one_rows}
use Rattle.class_refine.proofs.PatternTables.{rows_exist}
use Rattle.dict_rows.specs.AnswerTable.{Answers, AreAnswers}

abbrev answers_with : ℕ → ℕ → List (List (List Bool)) → Answers
answers_with numbers positions rows = record { numbers = numbers; positions = positions; rows = rows }

module _ (c : Circuit) (is : IsCircuit c) where
  -- There is a table of the answers to patterns.
  pub answers_exist : (patterns : List (List Bool)) → (t : Answers) × AreAnswers c patterns t
  answers_exist patterns =
      let made = rows_exist c is patterns in
      (record { numbers = fault_count c; positions = length c.positions; rows = made.0 }, record { numbers = refl; positions = refl; rows = made.1 })

  -- There is only one table of the answers to patterns.
  pub one_answers : {patterns : List (List Bool)} {t other : Answers} → AreAnswers c patterns t → AreAnswers c patterns other → t ≡ other
  one_answers {patterns} {t} {other} are others =
      let numbers = are.numbers ∙ sym others.numbers in
      let positions = are.positions ∙ sym others.positions in
      let rows = one_rows c is patterns t.rows other.rows are.rows others.rows in
      λ i. answers_with (numbers i) (positions i) (rows i)
