use Rattle.pair_miter.proofs.Sound.{model_separates}
use Rattle.pair_miter.proofs.laws.model_separates.Goals as goal

pub returns : goal.returns
returns c = model_separates
