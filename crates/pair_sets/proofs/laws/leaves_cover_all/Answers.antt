use Rattle.pair_sets.proofs.TreeLemmas.{leaves_cover}
use Rattle.pair_sets.proofs.laws.leaves_cover_all.Goals as goal

pub returns : goal.returns
returns c = leaves_cover
