use Rattle.std.proofs.Common.{◌≡◌, drop}
use Rattle.std.specs.Prelude.{find}
use Rattle.pair_sets.specs.PairSet.{only_unequal}
use Rattle.pair_sets.specs.CubeState.{position_pairs}
use Rattle.pair_sets.proofs.tally.first_apart.Given as goal

abbrev pub invariant-loop-at : goal.invariant-loop-at
invariant-loop-at l = find (λ at. only_unequal (position_pairs l.pair.circuit.now l.pair.f l.pair.g l.sets at)) l.reached ≡ find (λ at. only_unequal (position_pairs l.pair.circuit.now l.pair.f l.pair.g l.sets at)) (drop l.at-index l.reached)
