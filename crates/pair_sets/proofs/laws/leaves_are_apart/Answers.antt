use Rattle.pair_sets.proofs.TreeLemmas.{leaves_apart}
use Rattle.pair_sets.proofs.laws.leaves_are_apart.Goals as goal

pub returns : goal.returns
returns c = leaves_apart
