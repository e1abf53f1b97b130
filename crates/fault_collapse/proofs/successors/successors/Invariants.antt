use Rattle.fault_collapse.proofs.Found.{FoundBelow}
use Rattle.fault_collapse.proofs.successors.successors.Given as goal

abbrev pub invariant-loop-number : goal.invariant-loop-number
invariant-loop-number l = FoundBelow l.circuit l.number l.found.items
