use Rattle.pair_miter.proofs.TidyAndFresh.{is_model-tidy}
use Rattle.pair_miter.proofs.laws.tidy_keeps_models.Goals as goal

pub returns : goal.returns
returns c = is_model-tidy
