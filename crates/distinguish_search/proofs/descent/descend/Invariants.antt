use Rattle.std.proofs.Common.{◌-◌, length}
use Rattle.distinguish_search.specs.Frames.{IsUnderWay, SplitsOn}
use Rattle.distinguish_search.proofs.descent.descend.Given as goal

abbrev pub invariant-loop-sim : goal.invariant-loop-sim
invariant-loop-sim l = IsUnderWay l.initial.sim.circuit l.initial.sim.f l.initial.sim.g l.sim l.stack × SplitsOn l.initial.sim.circuit.sources l.initial.stack l.stack

abbrev pub decreases-loop-sim : goal.decreases-loop-sim
decreases-loop-sim l = l.initial.sim.circuit.sources - length l.stack
