use Rattle.distinguish_search.specs.Open.{AreDecided}
use Rattle.distinguish_search.proofs.walk.first_open.Given as goal

abbrev pub invariant-loop-place : goal.invariant-loop-place
invariant-loop-place l = AreDecided l.sim.circuit l.sim.f l.sim.g l.sim.cube l.from l.place
