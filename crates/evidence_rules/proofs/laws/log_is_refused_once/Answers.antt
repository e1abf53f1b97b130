use Rattle.evidence_rules.proofs.LogLaws.{one_refusal, refused_is_wrong}
use Rattle.evidence_rules.proofs.laws.log_is_refused_once.Goals as goal

pub returns-clause-wrong : goal.returns-clause-wrong
returns-clause-wrong c = refused_is_wrong

pub returns-clause-once : goal.returns-clause-once
returns-clause-once c = λ kind clauses limit log. one_refusal kind clauses log limit
