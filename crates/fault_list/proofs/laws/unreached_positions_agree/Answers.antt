use Rattle.fault_list.proofs.Pair.{same_unreached}
use Rattle.fault_list.proofs.laws.unreached_positions_agree.Goals as goal

pub returns : goal.returns
returns c = λ circuit f g v x y at w a b. same_unreached circuit w f g v x y a b at
