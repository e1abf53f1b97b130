use Rattle.pair_sets.proofs.DecidedLemmas.{fixed_decided}
use Rattle.pair_sets.proofs.laws.relevant_fixed_is_decided.Goals as goal

pub returns : goal.returns
returns c = fixed_decided
