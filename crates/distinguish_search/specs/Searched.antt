-- What a search with a simulation finds for a pair of faults.
use Rattle.std.specs.Prelude.{◌≡◌, ℕ, Bool, List, Option, None, Some, length, slice_index_or}
use Rattle.net_model.specs.declared.fault.Fault.{Fault}
use Rattle.net_model.specs.Circuit.{Circuit}
use Rattle.net_model.specs.Answer.{Separates, bit_at}
use Rattle.pair_sets.specs.Tree.{IsCovering, IsSpending}
use Rattle.distinguish_search.specs.declared.searched.Searched.{Searched}
use Rattle.distinguish_search.specs.declared.searched.Searched.TheVariants.{Apart, Covered, Spent}

-- The vector lies in the cube: it has the cube's bit at each source that the cube fixes.
abbrev pub HasBits : List (Option Bool) → List Bool → Type 0
HasBits cube v = (source : ℕ) (bit : Bool) → slice_index_or cube source None ≡ Some bit → bit_at v source ≡ bit

-- The cube has a place for each source, and each vector of it that is as wide as the circuit separates the faults.
pub record SeparatesAll (c : Circuit) (f g : Fault) (cube : List (Option Bool)) : Type 0 where
  pub width : length cube ≡ c.sources
  pub each : (v : List Bool) → length v ≡ c.sources → HasBits cube v → Separates c v f g

-- Each vector of a returned cube separates the faults. A covered tree is one of the two faults without an open leaf,
-- and with at most `leaves` closed ones; a spent one is one of the two faults with an open leaf, and with exactly
-- `leaves` closed ones.
abbrev pub IsSearched : Circuit → Fault → Fault → ℕ → Searched → Type 0
IsSearched c f g leaves (Apart cube) = SeparatesAll c f g cube.items
IsSearched c f g leaves (Covered tree) = IsCovering c f g leaves tree
IsSearched c f g leaves (Spent tree) = IsSpending c f g leaves tree
