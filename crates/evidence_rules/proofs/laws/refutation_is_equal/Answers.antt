use Rattle.evidence_rules.proofs.Sound.{refutation_equal}
use Rattle.evidence_rules.proofs.laws.refutation_is_equal.Goals as goal

pub returns : goal.returns
returns c = refutation_equal
