use Rattle.std.proofs.Common.{subst}
use Rattle.net_model.specs.Circuit.{IsCircuit}
use Rattle.pair_sets.specs.PairSim.{PairSim}
use Rattle.pair_sets.proofs.sim.PairSim.circuit.Goals as goal

pub returns-clause-circuit : goal.returns-clause-circuit
returns-clause-circuit c = subst (λ (sim : PairSim). IsCircuit sim.circuit) c.self.view_is c.self.invariant.circuit
