use Rattle.fault_list.proofs.Pair.{one_number}
use Rattle.fault_list.proofs.laws.one_number.Goals as goal

pub returns : goal.returns
returns c = one_number
