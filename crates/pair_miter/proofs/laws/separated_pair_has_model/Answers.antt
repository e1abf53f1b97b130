use Rattle.pair_miter.proofs.Complete.{separated_has_model}
use Rattle.pair_miter.proofs.laws.separated_pair_has_model.Goals as goal

pub returns : goal.returns
returns c = separated_has_model
