use Rattle.bridging_faults.proofs.ConeLemmas.{FanInFrom}
use Rattle.bridging_faults.proofs.cones.mark_fan_in.Given as goal

abbrev pub invariant-loop-i : goal.invariant-loop-i
invariant-loop-i l = FanInFrom l.circuit l.to l.order l.i l.marks.items
