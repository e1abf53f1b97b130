use Rattle.net_model.specs.Fault.{IsFaultOf}
use Rattle.net_model.proofs.Copies.{All-at}
use Rattle.tests_circuits.proofs.tests.listing.push_names.Goals as goal

pub push_name-requires-clause-fault : goal.push_name-requires-clause-fault
push_name-requires-clause-fault c = All-at (IsFaultOf c.args.design.now.circuit) c.args.faults.now c.loop-number.number c.get-fault.result c.requires.faults c.get-fault.ensures.value
