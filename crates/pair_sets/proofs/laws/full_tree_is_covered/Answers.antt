use Rattle.pair_sets.proofs.TreeLemmas.{spending_bounded}
use Rattle.pair_sets.proofs.laws.full_tree_is_covered.Goals as goal

pub returns : goal.returns
returns c = λ circuit f g limit tokens w spending. spending_bounded circuit f g limit tokens w spending
