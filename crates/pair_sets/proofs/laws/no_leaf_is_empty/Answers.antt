use Rattle.pair_sets.proofs.TreeLemmas.{no_leaf_empty}
use Rattle.pair_sets.proofs.laws.no_leaf_is_empty.Goals as goal

pub returns : goal.returns
returns c = no_leaf_empty
