-- A walk along a loop has a first gate.
use Rattle.std.proofs.Common.{ℕ, ◌<◌, List, [], ◌∷◌, length, refl, arith}
use Rattle.std.specs.Prelude.{Contains}
use Rattle.net_model.specs.LoopWalk.{IsLoopWalk}
use Rattle.net_model.specs.Circuit.{Circuit}

first_of : (walk : List ℕ) → 0 < length walk → (line : ℕ) × Contains walk line
first_of [] some = absurd (omega arith)
first_of (line ∷ walk) some = (line, (0, some, refl))

-- the first gate of a walk is on it
pub walk_first : {c : Circuit} {walk : List ℕ} → IsLoopWalk c walk → (line : ℕ) × Contains walk line
walk_first {c} {walk} is = first_of walk is.nonempty
