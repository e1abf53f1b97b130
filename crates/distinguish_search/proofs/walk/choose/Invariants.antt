use Rattle.std.proofs.Common.{◌+◌, ◌≤◌, length}
use Rattle.net_model.specs.Circuit.{IsCircuit}
use Rattle.distinguish_search.specs.Open.{IsLineOpen}
use Rattle.distinguish_search.proofs.walk.choose.Given as goal

-- each step goes to a lower rank
abbrev pub invariant-loop-step : goal.invariant-loop-step
invariant-loop-step l = IsLineOpen l.sim.circuit l.sim.f l.sim.g l.sim.cube l.here.line × ((w : IsCircuit l.sim.circuit) → w.acyclic.rank l.here.line + l._step ≤ length l.sim.circuit.gates)
