use Rattle.fault_collapse.proofs.RootSteps.{StemsFrom}
use Rattle.fault_collapse.proofs.roots.find_stem_roots.Given as goal

abbrev pub invariant-loop-i : goal.invariant-loop-i
invariant-loop-i l = StemsFrom l.circuit l.successors l.order l.i l.roots.items
