use Rattle.std.proofs.Common.{◌≡◌, ℕ, ◌<◌, take}
use Rattle.net_model.specs.Gate.{folded_bit}
use Rattle.net_model.specs.Answer.{bit_at}
use Rattle.word_sim.specs.declared.lanes.TheConstants.{LANES}
use Rattle.word_sim.specs.SeenLane.{seen_lane}
use Rattle.word_sim.proofs.gate_lanes.folded_lanes.Given as goal

abbrev pub invariant-loop-pin : goal.invariant-loop-pin
invariant-loop-pin l = (lane : ℕ) → lane < LANES → bit_at l.lanes lane ≡ folded_bit l.fold (take l.pin-index (seen_lane l.rows l.pins lane))
