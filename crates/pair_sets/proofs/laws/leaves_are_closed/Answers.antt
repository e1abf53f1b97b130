use Rattle.pair_sets.proofs.TreeLemmas.{leaf_closed}
use Rattle.pair_sets.proofs.laws.leaves_are_closed.Goals as goal

pub returns : goal.returns
returns c = leaf_closed
