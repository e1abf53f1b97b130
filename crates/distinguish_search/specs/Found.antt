-- What a search finds for a pair of faults.
use Rattle.std.specs.Prelude.{ℕ}
use Rattle.net_model.specs.declared.fault.Fault.{Fault}
use Rattle.net_model.specs.Circuit.{Circuit}
use Rattle.net_model.specs.Answer.{Separates}
use Rattle.pair_sets.specs.Tree.{IsCovering, IsSpending}
use Rattle.distinguish_search.specs.declared.found.Found.{Found}
use Rattle.distinguish_search.specs.declared.found.Found.TheVariants.{Vector, Covered, Spent}

-- The vector separates the faults. A covered tree is one of the two faults without an open leaf, and with at most
-- `leaves` closed ones; a spent one is one of the two faults with an open leaf, and with exactly `leaves` closed ones.
abbrev pub IsFound : Circuit → Fault → Fault → ℕ → Found → Type 0
IsFound c f g leaves (Vector v) = Separates c v f g
IsFound c f g leaves (Covered tree) = IsCovering c f g leaves tree
IsFound c f g leaves (Spent tree) = IsSpending c f g leaves tree
