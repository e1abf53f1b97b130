use Rattle.fault_heads.proofs.OneWay.{way_law}
use Rattle.fault_heads.proofs.laws.line_turns_gate.Goals as goal

pub returns : goal.returns
returns c = way_law
