use Rattle.std.proofs.Common.{◌<◌, ◌↔◌, ℕ, [], drop}
use Rattle.word_sim.specs.declared.lanes.TheConstants.{LANES}
use Rattle.kept_vectors.specs.Notes.{AreNotedAlike}
use Rattle.kept_vectors.proofs.ApartLemmas.{SameFrom}
use Rattle.kept_vectors.proofs.apart.any_lane.Given as goal

abbrev pub invariant-loop-at : goal.invariant-loop-at
invariant-loop-at l = (lane : ℕ) → lane < LANES → AreNotedAlike lane (drop l.from l.notes) [] ↔ SameFrom lane l.lanes (drop l.at l.notes) []
