use Rattle.pair_sets.proofs.StateLemmas.{same_closed}
use Rattle.pair_sets.proofs.laws.all_same_is_closed.Goals as goal

pub returns : goal.returns
returns c = same_closed
