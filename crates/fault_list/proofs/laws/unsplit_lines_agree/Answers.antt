use Rattle.net_model.proofs.ScopeLaws.{same_unsplit}
use Rattle.fault_list.proofs.laws.unsplit_lines_agree.Goals as goal

pub returns : goal.returns
returns c = λ circuit f g v x y line w a b. same_unsplit circuit w f g v x y a b line
