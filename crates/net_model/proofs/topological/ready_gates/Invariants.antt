use Rattle.net_model.specs.Topological.{parts_circuit}
use Rattle.net_model.proofs.QueueSteps.{IsStart}
use Rattle.net_model.proofs.topological.ready_gates.Given as goal

abbrev pub invariant-loop-line : goal.invariant-loop-line
invariant-loop-line l = IsStart (parts_circuit l.parts) l.line l.waits.items l.order.items
