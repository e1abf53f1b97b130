use Rattle.pair_sets.proofs.TreeLemmas.{covering_equal}
use Rattle.pair_sets.proofs.laws.covering_is_equal.Goals as goal

pub returns : goal.returns
returns c = covering_equal
