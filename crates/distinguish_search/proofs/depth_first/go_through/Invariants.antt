use Rattle.distinguish_search.specs.Frames.{vectors_left}
use Rattle.distinguish_search.proofs.Leaves.{IsInBudget}
use Rattle.distinguish_search.proofs.depth_first.go_through.Given as goal

abbrev pub invariant-loop-stack : goal.invariant-loop-stack
invariant-loop-stack l = IsInBudget l.fn.sim.circuit l.fn.sim.f l.fn.sim.g l.leaves l.closed l.sim l.stack

abbrev pub decreases-loop-stack : goal.decreases-loop-stack
decreases-loop-stack l = vectors_left l.fn.sim.circuit.sources l.stack
