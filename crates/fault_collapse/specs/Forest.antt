-- The forest of a circuit's faults: by number, the successor and the root of each.
use Rattle.std.specs.Prelude.{◌≡◌, ◌==◌, ◌-◌, ℕ, List, length, filter, Option, None, Some, slice_get, slice_index, slice_index_or, ⊤}
use Rattle.std.specs.List.{list_any, range_with_len}
use Rattle.net_model.specs.declared.fault.Fault.{Fault}
use Rattle.net_model.specs.Circuit.{Circuit, IsCircuit}
use Rattle.net_model.specs.FaultList.{faults, fault_count}
use Rattle.net_model.specs.Collapse.{successor, root}

-- For each number the number of its successor, if it has one, and that of its root.
pub record Forest : Type 0 where
  pub successors : List (Option ℕ)
  pub roots : List ℕ

abbrev pub forest_with : List (Option ℕ) → List ℕ → Forest
forest_with successors roots = record { successors = successors; roots = roots }

-- how many numbers there are
abbrev pub number_count : Forest → ℕ
number_count forest = length forest.roots

-- the number of a number's successor, if it has one
abbrev pub successor_of : Forest → ℕ → Option ℕ
successor_of forest number = slice_index_or forest.successors number None

-- the number of a number's root
abbrev pub root_of : Forest → ℕ → ℕ
root_of forest number = slice_index forest.roots number

-- the numbers, except 0, that are the root of some number
abbrev pub root_numbers : Forest → List ℕ
root_numbers forest = filter (λ number. list_any (λ root. root == number) forest.roots) (range_with_len 1 (number_count forest - 1))

-- ---- the faults of the numbers

-- The number is that of the fault, or there is neither.
abbrev pub IsNumberOf : Circuit → Option Fault → Option ℕ → Type 0
IsNumberOf c None None = ⊤
IsNumberOf c (Some fault) (Some number) = slice_get (faults c) number ≡ Some fault
IsNumberOf c _ _ = ⊥

-- Each number has the number of its fault's successor, if that fault has one.
pub record AreSuccessors (c : Circuit) (successors : List (Option ℕ)) : Type 0 where
  pub whole : length successors ≡ fault_count c
  pub each : (number : ℕ) (fault : Fault) → slice_get (faults c) number ≡ Some fault → IsNumberOf c (successor c fault) (slice_index_or successors number None)

-- Each number has the number of its fault's root.
pub record AreRoots (c : Circuit) (roots : List ℕ) : Type 0 where
  pub whole : length roots ≡ fault_count c
  pub each : (number : ℕ) (fault : Fault) → slice_get (faults c) number ≡ Some fault → slice_get (faults c) (slice_index roots number) ≡ Some (root c fault)

-- The circuit is an `IsCircuit`, and this is the forest of its faults.
pub record IsForestOf (c : Circuit) (forest : Forest) : Type 0 where
  pub circuit : IsCircuit c
  pub successors : AreSuccessors c forest.successors
  pub roots : AreRoots c forest.roots
