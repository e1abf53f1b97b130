use Rattle.fault_collapse.proofs.Chain.{root_is_last}
use Rattle.fault_collapse.proofs.laws.root_is_last.Goals as goal

pub returns : goal.returns
returns c = λ circuit f is is_f. root_is_last circuit is f is_f
