use Rattle.std.proofs.Common.{◌≡◌, drop}
use Rattle.net_model.specs.declared.operation.Operation.TheVariants.{Folded}
use Rattle.pair_sets.specs.PairSet.{operation_pairs}
use Rattle.pair_sets.specs.CubeState.{seen_pairs}
use Rattle.pair_sets.proofs.fault_pair.FaultPair.folded.Given as goal

abbrev pub invariant-loop-k : goal.invariant-loop-k
invariant-loop-k l = l.pairs ≡ operation_pairs (Folded l.fold) (drop l.k (seen_pairs l.self.f l.self.g l.sets l.line l.pins))
