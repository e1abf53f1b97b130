use Rattle.std.proofs.Common.{◌∙◌, ◌<◌, length, subst}
use Rattle.std.specs.Prelude.{All}
use Rattle.net_model.specs.Circuit.{IsCircuit}
use Rattle.pair_sets.specs.PairSim.{PairSim}
use Rattle.pair_sets.proofs.LevelLemmas.{reached_within}
use Rattle.pair_sets.proofs.sim.PairSim.reached.Goals as goal

pub returns-clause-inside : goal.returns-clause-inside
returns-clause-inside c =
    let a = c.self.inside in
    subst (λ (sim : PairSim). All (λ at. at < length sim.circuit.positions) c.as_slice.result.now) c.self.view_is
    (reached_within a.pair.circuit.now a.pair.f a.pair.g c.as_slice.result.now (c.as_slice.ensures.value ∙ c.self.invariant.tally.reached))

pub returns-clause-circuit : goal.returns-clause-circuit
returns-clause-circuit c = subst (λ (sim : PairSim). IsCircuit sim.circuit) c.self.view_is c.self.invariant.circuit
