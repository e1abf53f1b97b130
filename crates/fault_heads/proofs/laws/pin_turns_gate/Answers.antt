use Rattle.fault_heads.proofs.OneWay.{pin_law}
use Rattle.fault_heads.proofs.laws.pin_turns_gate.Goals as goal

pub returns : goal.returns
returns c = pin_law
