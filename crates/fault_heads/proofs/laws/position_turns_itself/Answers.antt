use Rattle.fault_heads.proofs.OneWay.{position_law}
use Rattle.fault_heads.proofs.laws.position_turns_itself.Goals as goal

pub returns : goal.returns
returns c = position_law
