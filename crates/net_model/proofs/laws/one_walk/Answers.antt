use Rattle.net_model.proofs.LoopLaws.{one_walk}
use Rattle.net_model.proofs.laws.one_walk.Goals as goal

pub returns : goal.returns
returns c = one_walk
