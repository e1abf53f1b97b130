use Rattle.std.proofs.Common.{◌≡◌, ℕ, take}
use Rattle.std.specs.Prelude.{Bool, List}
use Rattle.net_model.specs.Gate.{folded_bit}
use Rattle.net_model.specs.Answer.{bit_at}
use Rattle.fault_heads.specs.Turned.{IsFreeLane}
use Rattle.fault_sim.specs.TurnedLines.{turned_bits, read_bits}
use Rattle.fault_sim.proofs.turned.folded_lanes.Given as goal

abbrev pub invariant-loop-pin : goal.invariant-loop-pin
invariant-loop-pin l = (lane : ℕ) (free : List Bool) → IsFreeLane l.good lane free → bit_at l.lanes lane ≡ folded_bit l.fold (take l.pin-index (read_bits (turned_bits free l.rows lane) l.pins))
