use Rattle.std.proofs.Common.{◌∙◌, List, length, ap, subst, arith}
use Rattle.net_model.specs.Fault.{stuck_pin}
use Rattle.pair_sets.specs.PairSet.{PairSet}
use Rattle.pair_sets.specs.PairSet.{forced_pairs}
use Rattle.pair_sets.specs.CubeState.{set_at, IsPart}
use Rattle.pair_sets.specs.PairSim.{PairSim}
use Rattle.pair_sets.proofs.LevelLemmas.{right_of}
use Rattle.pair_sets.proofs.ReadLemmas.{line_in}
use Rattle.pair_sets.proofs.sim.PairSim.pin_pairs.Goals as goal

pub pin_pairs-requires : goal.pin_pairs-requires
pin_pairs-requires c = omega (arith, line_in c.self.inside c.self.invariant c.args.self.now c.args.read c.self.view_is c.requires, ap length c.as_slice.ensures.value)

pub returns : goal.returns
returns c =
    let a = c.self.inside in
    let part : PairSim → List PairSet → PairSet = λ sim sets. forced_pairs (stuck_pin sim.f c.args.line c.args.pin) (stuck_pin sim.g c.args.line c.args.pin) (set_at sets c.args.read) in
    subst (λ (sim : PairSim). IsPart sim.circuit sim.f sim.g sim.cube (part sim) c.pin_pairs.result) c.self.view_is
    record { sets = a.trail.sets.items; are = (right_of a c.self.invariant).right; is = c.pin_pairs.ensures ∙ ap (λ sets. forced_pairs (stuck_pin a.pair.f c.args.line c.args.pin) (stuck_pin a.pair.g c.args.line c.args.pin) (set_at sets c.args.read)) c.as_slice.ensures.value }
