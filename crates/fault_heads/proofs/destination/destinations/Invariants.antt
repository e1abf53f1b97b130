use Rattle.fault_heads.proofs.Found.{AreFoundSoFar}
use Rattle.fault_heads.proofs.destination.destinations.Given as goal

abbrev pub invariant-loop-line : goal.invariant-loop-line
invariant-loop-line l = AreFoundSoFar l.circuit l.line l.found.items
