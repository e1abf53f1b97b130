use Rattle.std.proofs.Common.{length}
use Rattle.distinguish_search.proofs.FrameLemmas.{ClimbsFrom}
use Rattle.distinguish_search.proofs.climb.climb.Given as goal

abbrev pub invariant-loop-frame : goal.invariant-loop-frame
invariant-loop-frame l = ClimbsFrom l.initial.sim.circuit l.initial.sim.f l.initial.sim.g l.initial.tree l.initial.stack l.sim l.stack l.tree

abbrev pub decreases-loop-frame : goal.decreases-loop-frame
decreases-loop-frame l = length l.stack
