use Rattle.std.proofs.Common.{◌≡◌, ℕ, take}
use Rattle.std.specs.Prelude.{Bool, List}
use Rattle.net_model.specs.declared.fault.Site.TheVariants.{Pin}
use Rattle.net_model.specs.declared.fault.Fault.TheVariants.{Stuck}
use Rattle.net_model.specs.Fault.{stuck_pin}
use Rattle.net_model.specs.Gate.{folded_bit}
use Rattle.net_model.specs.Answer.{bit_at, seen_bits}
use Rattle.fault_heads.specs.Turned.{IsFreeLane}
use Rattle.fault_heads.proofs.pins.folded_lanes.Given as goal

abbrev pub invariant-loop-at : goal.invariant-loop-at
invariant-loop-at l = (lane : ℕ) (free : List Bool) → IsFreeLane l.good lane free → bit_at l.lanes lane ≡ folded_bit l.fold (take l.at (seen_bits (stuck_pin (Stuck (Pin l.gate l.pin) (bit_at l.seen lane)) l.gate) free l.pins))
