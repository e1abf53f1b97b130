use Rattle.pair_sets.proofs.BaseLemmas.{BaseSoFar}
use Rattle.pair_sets.proofs.base.base_pairs.Given as goal

abbrev pub invariant-loop-line : goal.invariant-loop-line
invariant-loop-line l = BaseSoFar l.circuit l.line-items l.line-index l.sets.items
