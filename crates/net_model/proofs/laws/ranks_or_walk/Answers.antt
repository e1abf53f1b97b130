use Rattle.net_model.proofs.LoopLaws.{ranks_or_walk}
use Rattle.net_model.proofs.laws.ranks_or_walk.Goals as goal

pub returns : goal.returns
returns c = ranks_or_walk
