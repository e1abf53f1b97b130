use Rattle.std.proofs.Common.{◌≡◌}
use Rattle.std.specs.Prelude.{IfSome, None}
use Rattle.net_model.specs.Circuit.{Feeds}
use Rattle.distinguish_search.specs.Open.{IsLineOpen}
use Rattle.distinguish_search.proofs.Walks.{NoneSeveral}
use Rattle.distinguish_search.proofs.step.open_pin.Given as goal

abbrev pub invariant-loop-pin : goal.invariant-loop-pin
invariant-loop-pin l = IfSome l.found (λ read. Feeds l.sim.circuit read l.line × IsLineOpen l.sim.circuit l.sim.f l.sim.g l.sim.cube read) × (l.found ≡ None → NoneSeveral l.sim.circuit l.sim.f l.sim.g l.sim.cube l.line l.pins l.pin)
