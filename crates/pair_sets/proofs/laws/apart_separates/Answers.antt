use Rattle.pair_sets.proofs.StateLemmas.{apart_differs}
use Rattle.pair_sets.proofs.laws.apart_separates.Goals as goal

pub returns : goal.returns
returns c = apart_differs
