-- Laws of vectors that were applied.
use Rattle.std.specs.Prelude.{◌≡◌, ℕ, Bool, List, All, Contains}
use Rattle.net_model.specs.Circuit.{Circuit, IsCircuit}
use Rattle.net_model.specs.ClassTable.{ClassTable}
use Rattle.net_model.specs.PatternRows.{IsTableOf}
use Rattle.kept_vectors.specs.Kept.{IsKeptOf}
use Rattle.result_records.specs.Marks.{patterns_in}
use Rattle.ranked_diag.specs.PartialLog.{Line}
use Rattle.text_fields.specs.Fields.{Text}
use Rattle.run_steps.specs.ResultLogs.{AreValidBytes}
use Rattle.listing_commands.specs.Applied.{AreClassesWith, IsExpectedAt, IsSuspectsAt, IsCoverAt, IsBridgesAt}
use Rattle.listing_commands.specs.Bridges.{IsBridgesText}
use Rattle.listing_commands.specs.Suspects.{IsExpectedLog, IsSuspectsText, IsCoverText}

-- If all that is kept of a list is among the patterns of a result, as it is after the list was topped up, the list
-- splits none of their classes: the classes of both together are those of the result.
abbrev pub OwnListSplitsNone : Type 0
OwnListSplitsNone = (c : Circuit) (result : Text) (of : AreValidBytes c result) (vectors kept : List (List Bool)) (t : ClassTable) → IsCircuit c → IsKeptOf c vectors kept → All (Contains (patterns_in of.records)) kept
    → AreClassesWith c result vectors t → IsTableOf c (patterns_in of.records) t

-- With the patterns of the result as the vectors that were applied, the same suspects, covers and bridges are printed
-- and the same log is made as without.
pub record OwnPatternsSaySame (c : Circuit) (result : Text) (of : AreValidBytes c result) : Type 0 where
  pub suspects : (lines : List Line) (most : ℕ) (text other : Text) → IsSuspectsText c result lines most text → IsSuspectsAt c result (patterns_in of.records) lines most other → other ≡ text
  pub covers : (lines : List Line) (text other : Text) → IsCoverText c result lines text → IsCoverAt c result (patterns_in of.records) lines other → other ≡ text
  pub bridges : (names : List Text) (lines : List Line) (within most : ℕ) (text other : Text) → IsBridgesText c names result lines within most text → IsBridgesAt c names result (patterns_in of.records) lines within most other → other ≡ text
  pub expected : (file text made said : Text) → IsExpectedLog c result file text → IsExpectedAt c (patterns_in of.records) made said → (made ≡ file) × (said ≡ text)

-- `OwnPatternsSaySame` holds for every result that is valid for a circuit.
abbrev pub ResultsSaySame : Type 0
ResultsSaySame = (c : Circuit) (result : Text) (of : AreValidBytes c result) → IsCircuit c → OwnPatternsSaySame c result of
