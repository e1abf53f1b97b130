use Rattle.bridging_faults.proofs.ConeLemmas.{FanOutSoFar}
use Rattle.bridging_faults.proofs.cones.mark_fan_out.Given as goal

abbrev pub invariant-loop-line : goal.invariant-loop-line
invariant-loop-line l = FanOutSoFar l.circuit l.from l.line-items l.line-index l.marks.items
