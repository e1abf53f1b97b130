use Rattle.std.proofs.Common.{length, ◌+◌, ◌-◌, ◌≤◌, ◌<◌, ◌↔◌, ℕ, drop}
use Rattle.word_sim.specs.declared.lanes.TheConstants.{LANES}
use Rattle.kept_vectors.specs.Notes.{AreNotedAlike}
use Rattle.kept_vectors.proofs.ApartLemmas.{SameFrom}
use Rattle.kept_vectors.proofs.apart.apart.Given as goal

abbrev pub invariant-loop-at : goal.invariant-loop-at
invariant-loop-at l = record {
  at : l.at ≤ length l.one;
  by : l.by ≤ length l.other;
  same : (lane : ℕ) → lane < LANES → AreNotedAlike lane l.one l.other ↔ SameFrom lane l.lanes (drop l.at l.one) (drop l.by l.other);
}

abbrev pub decreases-loop-at : goal.decreases-loop-at
decreases-loop-at l = (length l.one - l.at) + (length l.other - l.by)
