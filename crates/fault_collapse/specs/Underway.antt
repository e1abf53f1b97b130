-- Tables while the forest is being made.
use Rattle.std.specs.Prelude.{◌≡◌, ℕ, ◌<◌, ◌≤◌, Bool, List, length, Option, None, Some, slice_get, slice_index, slice_index_or}
use Rattle.std.specs.Option.{option_map_or}
use Rattle.net_model.specs.declared.fault.Site.TheVariants.{Stem}
use Rattle.net_model.specs.declared.fault.Fault.{Fault}
use Rattle.net_model.specs.declared.fault.Fault.TheVariants.{Stuck}
use Rattle.net_model.specs.Circuit.{Circuit}
use Rattle.net_model.specs.FaultList.{faults, fault_count}
use Rattle.net_model.specs.Collapse.{root}

-- the root of a number's successor, or the number's own root so far if it has no successor
abbrev pub followed : List (Option ℕ) → List ℕ → ℕ → ℕ
followed successors roots number = option_map_or (slice_index roots) (slice_index_or successors number None) (slice_index roots number)

-- The number has the number of its fault's root.
abbrev pub IsRootAt : Circuit → List ℕ → ℕ → Type 0
IsRootAt c roots number = (fault : Fault) → slice_get (faults c) number ≡ Some fault → slice_get (faults c) (slice_index roots number) ≡ Some (root c fault)

-- There is a root for each number, and a number without a successor is its own root.
pub record AreOwnRoots (c : Circuit) (successors : List (Option ℕ)) (roots : List ℕ) : Type 0 where
  pub whole : length roots ≡ fault_count c
  pub own : (number : ℕ) → number < fault_count c → slice_index_or successors number None ≡ None → slice_index roots number ≡ number

-- The roots of the stems of all gates are right.
abbrev pub AreStemRoots : Circuit → List ℕ → Type 0
AreStemRoots c roots = (line : ℕ) (bit : Bool) (number : ℕ) → c.sources ≤ line → slice_get (faults c) number ≡ Some (Stuck (Stem line) bit) → IsRootAt c roots number
