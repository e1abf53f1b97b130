use Rattle.pair_sets.proofs.DecidedLemmas.{one_state}
use Rattle.pair_sets.proofs.laws.one_state.Goals as goal

pub returns : goal.returns
returns c = one_state
