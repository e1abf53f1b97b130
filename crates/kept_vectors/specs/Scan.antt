-- The working state of a keeper.
use Rattle.std.specs.Prelude.{◌≡◌, ℕ, ◌≤◌, ◌<◌, Bool, List, [], ◌∷◌, ◌++◌, length, take, slice_index_or, IsTrue}
use Rattle.std.specs.Bool.{MatchBool}
use Rattle.net_model.specs.Circuit.{Circuit, IsCircuit}
use Rattle.net_model.specs.FaultList.{faults, fault_count}
use Rattle.word_sim.specs.declared.lanes.TheConstants.{LANES}
use Rattle.kept_vectors.specs.declared.scan.Kept.{Kept}
use Rattle.kept_vectors.specs.declared.scan.Scan.{Scan}
use Rattle.kept_vectors.specs.Kept.{KeptSoFar, Keeps}
use Rattle.kept_vectors.specs.Notes.{AreOf}

-- the kept vectors and their table that a `Kept` has
abbrev pub kept_now : Kept → KeptSoFar
kept_now kept = record { vectors = kept.vectors.items; table = kept.classes }

-- Faults, block and simulators are those of one circuit, and there are a list for each lane and a row for each number.
pub record IsScan (s : Scan) : Type 0 where
  pub circuit : IsCircuit s.good.circuit
  pub faults_are : s.listed.now ≡ faults s.good.circuit
  pub block : s.block.sources ≡ s.good.circuit.sources
  pub differences : AreOf s.good.circuit s.differences
  pub lanes : length s.waiting.lanes.items ≡ LANES
  pub rows : length s.rows.items ≡ fault_count s.good.circuit

-- If the vector splits a class it is kept after the others, and else nothing changes.
abbrev pub IsOffered : Bool → List Bool → KeptSoFar → KeptSoFar → Type 0
IsOffered splits v old new = MatchBool splits (new.vectors ≡ old.vectors ++ v ∷ []) (new ≡ old)

-- The first `count` of these vectors were judged, and each that splits a class is kept. In a run each of them is.
pub record HasJudged (c : Circuit) (vectors : List (List Bool)) (run : Bool) (count : ℕ) (old new : KeptSoFar) : Type 0 where
  pub within : count ≤ length vectors
  pub keeps : Keeps c (take count vectors) old new
  pub kept : IsTrue run → new.vectors ≡ old.vectors ++ take count vectors

-- All vectors were judged, or in a run those before one that changes nothing.
pub record IsScanEnd (c : Circuit) (vectors : List (List Bool)) (run : Bool) (count : ℕ) (new : KeptSoFar) : Type 0 where
  pub all : ¬ IsTrue run → count ≡ length vectors
  pub stops : count < length vectors → Keeps c (slice_index_or vectors count [] ∷ []) new new
