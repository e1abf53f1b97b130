use Rattle.fault_collapse.proofs.Settled.{is_settled}
use Rattle.fault_collapse.proofs.forest.collapse.Goals as goal

pub invariant_of-result : goal.invariant_of-result
invariant_of-result c = is_settled c.args.circuit.now c.stands.ensures c.in_ok-successors.successors.items c.in_ok-roots.roots.items c.in_ok-successors.ensures c.in_ok-roots.ensures

pub returns : goal.returns
returns c = record { circuit = c.stands.ensures; successors = c.in_ok-successors.ensures; roots = c.in_ok-roots.ensures }
