use Rattle.fault_collapse.proofs.Chain.{same_root_is_equal}
use Rattle.fault_collapse.proofs.laws.same_root_equal.Goals as goal

pub returns : goal.returns
returns c = λ circuit f g is is_f is_g same. same_root_is_equal circuit is f g is_f is_g same
