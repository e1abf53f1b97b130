use Rattle.net_model.specs.Topological.{parts_circuit}
use Rattle.net_model.proofs.UserLemmas.{AreReadersBelow}
use Rattle.net_model.proofs.topological.readers_of.Given as goal

abbrev pub invariant-loop-line : goal.invariant-loop-line
invariant-loop-line l = AreReadersBelow (parts_circuit l.parts) l.line l.readers
