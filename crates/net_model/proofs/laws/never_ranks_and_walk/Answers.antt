use Rattle.net_model.proofs.LoopLaws.{never_both}
use Rattle.net_model.proofs.laws.never_ranks_and_walk.Goals as goal

pub returns : goal.returns
returns c = never_both
