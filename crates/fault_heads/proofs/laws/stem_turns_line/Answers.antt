use Rattle.fault_heads.proofs.OneWay.{stem_law}
use Rattle.fault_heads.proofs.laws.stem_turns_line.Goals as goal

pub returns : goal.returns
returns c = stem_law
