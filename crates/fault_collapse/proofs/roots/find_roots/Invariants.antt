use Rattle.fault_collapse.proofs.RootSteps.{RootsBelow}
use Rattle.fault_collapse.proofs.roots.find_roots.Given as goal

abbrev pub invariant-loop-number : goal.invariant-loop-number
invariant-loop-number l = RootsBelow l.circuit l.successors l.number l.roots.items
