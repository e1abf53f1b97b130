-- What is read of the pair sets of a cube.
use Rattle.std.proofs.Common.{◌≡◌, ◌<◌, ◌∙◌, ℕ, List, length, sym, ap, subst}
use Rattle.net_model.specs.declared.fault.Fault.{Fault}
use Rattle.net_model.specs.Circuit.{Circuit, IsCircuit, line_count}
use Rattle.pair_sets.specs.PairSet.{PairSet}
use Rattle.pair_sets.specs.declared.sim.PairSim.TheInside.{Inside}
use Rattle.pair_sets.specs.Cube.{Cube}
use Rattle.pair_sets.specs.CubeState.{ArePairSets, IsPart}
use Rattle.pair_sets.specs.PairSim.{PairSim}
use Rattle.pair_sets.specs.PairSimFields.{pair_sim_of, ArePairSimFields}
use Rattle.pair_sets.proofs.DecidedLemmas.{same_pair_sets}
use Rattle.pair_sets.proofs.LevelLemmas.{right_of}

-- each line of the circuit has a set
pub line_in : (a : Inside) → ArePairSimFields a → (sim : PairSim) (line : ℕ) → pair_sim_of a ≡ sim → line < line_count sim.circuit → line < length a.trail.sets.items
line_in a ready sim line view h = subst (λ n. line < n) (sym (right_of a ready).right.whole) (subst (λ (s : PairSim). line < line_count s.circuit) (sym view) h)

-- what `part` gives of the pair sets of a cube is what it gives of any list of them
pub part_is : (c : Circuit) (f g : Fault) (cube : Cube) (part : List PairSet → PairSet) (pairs : PairSet) (sets : List PairSet) → IsCircuit c → IsPart c f g cube part pairs → ArePairSets c f g cube sets → pairs ≡ part sets
part_is c f g cube part pairs sets w read are = read.is ∙ ap part (same_pair_sets c f g cube read.sets sets w read.are are)
