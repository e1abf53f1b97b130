use Rattle.std.proofs.Common.{◌-◌, ◌≡◌, ◌≤◌, ◌<◌, ℕ, false}
use Rattle.net_model.specs.Answer.{bit_at}
use Rattle.kept_vectors.proofs.apart.first_lane.Given as goal

abbrev pub invariant-loop-lane : goal.invariant-loop-lane
invariant-loop-lane l = record {
  from : l.from ≤ l.lane;
  before : (lane : ℕ) → l.from ≤ lane → lane < l.lane → lane < l.live → bit_at l.lanes lane ≡ false;
}

abbrev pub decreases-loop-lane : goal.decreases-loop-lane
decreases-loop-lane l = l.live - l.lane
