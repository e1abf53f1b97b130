use Rattle.refute_check.proofs.WalkLemmas.{HasCome}
use Rattle.refute_check.proofs.tree.Walk.check.Given as goal

abbrev pub invariant-loop-step : goal.invariant-loop-step
invariant-loop-step l = HasCome l.initial.self.sim.circuit l.initial.self.sim.f l.initial.self.sim.g l.tokens l.step l.self
