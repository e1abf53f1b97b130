-- Laws of made files.
use Rattle.std.specs.Prelude.{◌≡◌, ◌<◌, ℕ, Bool, List, Some, slice_get, Contains}
use Rattle.net_model.specs.Circuit.{Circuit, IsCircuit}
use Rattle.net_model.specs.FaultList.{fault_count}
use Rattle.result_records.specs.declared.record.Budgets.{Budgets}
use Rattle.result_records.specs.declared.record.Record.{Record}
use Rattle.result_records.specs.declared.record.Record.TheVariants.{Pattern}
use Rattle.result_file.specs.declared.checked.Summary.{Summary}
use Rattle.result_file.specs.Meaning.{StatedResult, stated_records, stated_class}
use Rattle.result_file.specs.Valid.{AreRightLines}
use Rattle.result_records.specs.Marks.{patterns_in}
use Rattle.kept_vectors.specs.Kept.{SplitInTurn}
use Rattle.text_fields.specs.Fields.{Text}
use Rattle.kept_vectors.specs.Laws.{AnswerAlike}
use Rattle.dia_gen.specs.Made.{IsMade, IsMadeFrom}

-- Budgets with the given number of blocks, and without cubes and conflicts.
abbrev pub stream_budgets : ℕ → Budgets
stream_budgets blocks = record { blocks = blocks; cubes = 0; conflicts = 0 }

-- Two files that are made for one circuit and as many blocks, without budgets of cubes and conflicts, are the same text
-- and have the same summary.
abbrev pub OneFileOfStream : Type 0
OneFileOfStream = (c : Circuit) (blocks : ℕ) (summary other : Summary) (file text : Text) → IsCircuit c
    → IsMade c (stream_budgets blocks) summary file → IsMade c (stream_budgets blocks) other text → (file ≡ text) × (summary ≡ other)

-- Two files that are made from one list, for one circuit and as many blocks, without budgets of cubes and conflicts,
-- are the same text and have the same summary.
abbrev pub OneFileOfList : Type 0
OneFileOfList = (c : Circuit) (vectors : List (List Bool)) (blocks : ℕ) (summary other : Summary) (file text : Text) → IsCircuit c
    → IsMadeFrom c vectors (stream_budgets blocks) summary file → IsMadeFrom c vectors (stream_budgets blocks) other text → (file ≡ text) × (summary ≡ other)

-- What a file made from a list states: numbers of one stated class answer alike to each vector of the list, a pattern
-- that was found is no vector of the list, and without budgets of cubes and conflicts the stated classes are exactly
-- those of the list.
pub record IsGraded (c : Circuit) (vectors : List (List Bool)) (budgets : Budgets) (s : StatedResult) (later : List Record) : Type 0 where
  pub tells : (m n : ℕ) → m < fault_count c → n < fault_count c → stated_class s m ≡ stated_class s n → AnswerAlike c vectors m n
  pub found : (at : ℕ) (v : List Bool) → slice_get later at ≡ Some (Pattern v) → Contains vectors v → ⊥
  pub exact : (m n : ℕ) → budgets.cubes ≡ 0 → budgets.conflicts ≡ 0 → m < fault_count c → n < fault_count c → AnswerAlike c vectors m n → stated_class s m ≡ stated_class s n

-- Each file that is made from a list states classes as `IsGraded` says.
abbrev pub ListIsGraded : Type 0
ListIsGraded = (c : Circuit) (vectors : List (List Bool)) (budgets : Budgets) (summary : Summary) (file : Text) (made : IsMadeFrom c vectors budgets summary file) → IsCircuit c
    → IsGraded c vectors budgets made.is_true.stated made.later

-- The patterns of right lines have a bit for each source, and each splits a class of the patterns before it.
abbrev pub PatternsSplitInTurn : Type 0
PatternsSplitInTurn = (c : Circuit) (s : StatedResult) → AreRightLines c (stated_records c s) → SplitInTurn c (patterns_in s.body)
