use Rattle.std.proofs.Common.{◌∙◌, List, length, ap, subst}
use Rattle.pair_sets.specs.PairSet.{PairSet}
use Rattle.pair_sets.specs.CubeState.{position_pairs, IsPart}
use Rattle.pair_sets.specs.PairSim.{PairSim}
use Rattle.pair_sets.proofs.LevelLemmas.{right_of}
use Rattle.pair_sets.proofs.sim.PairSim.position_pairs.Goals as goal

pub position_pairs-requires-clause-width : goal.position_pairs-requires-clause-width
position_pairs-requires-clause-width c = ap length c.as_slice.ensures.value ∙ (right_of c.self.inside c.self.invariant).right.whole

pub returns : goal.returns
returns c =
    let a = c.self.inside in
    subst (λ (sim : PairSim). IsPart sim.circuit sim.f sim.g sim.cube (λ (sets : List PairSet). position_pairs sim.circuit sim.f sim.g sets c.args.at) c.position_pairs.result) c.self.view_is
    record { sets = a.trail.sets.items; are = (right_of a c.self.invariant).right; is = c.position_pairs.ensures ∙ ap (λ sets. position_pairs a.pair.circuit.now a.pair.f a.pair.g sets c.args.at) c.as_slice.ensures.value }
