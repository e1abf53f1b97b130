use Rattle.net_model.proofs.LoopLaws.{no_loop_circuit}
use Rattle.net_model.proofs.laws.no_loop_is_circuit.Goals as goal

pub returns : goal.returns
returns c = no_loop_circuit
