use Rattle.std.proofs.Common.{◌≡◌, ◌∙◌, List, arith, subst}
use Rattle.std.proofs.lemmas.List.{get_or_default}
use Rattle.pair_sets.specs.PairSet.{PairSet}
use Rattle.pair_sets.specs.PairSet.{free_pairs}
use Rattle.pair_sets.specs.CubeState.{set_at, IsPart}
use Rattle.pair_sets.specs.PairSim.{PairSim}
use Rattle.pair_sets.proofs.LevelLemmas.{right_of}
use Rattle.pair_sets.proofs.ReadLemmas.{line_in}
use Rattle.pair_sets.proofs.sim.PairSim.pairs.Goals as goal

pub index-requires : goal.index-requires
index-requires c = omega (arith, line_in c.self.inside c.self.invariant c.args.self.now c.args.line c.self.view_is c.requires, c.self.inside.trail.sets.ok.0)

pub returns : goal.returns
returns c =
    let a = c.self.inside in
    let sets = a.trail.sets.items in
    let is : c.index.result.now ≡ set_at sets c.args.line =
    c.index.ensures ∙ get_or_default sets c.args.line c.index.result.now free_pairs (line_in a c.self.invariant c.args.self.now c.args.line c.self.view_is c.requires) in
    subst (λ (sim : PairSim). IsPart sim.circuit sim.f sim.g sim.cube (λ (sets : List PairSet). set_at sets c.args.line) c.index.result.now) c.self.view_is
    record { sets = sets; are = (right_of a c.self.invariant).right; is = is }
