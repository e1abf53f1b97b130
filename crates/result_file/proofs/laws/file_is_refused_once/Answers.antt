use Rattle.result_file.proofs.FileLemmas.{file_wrong, file_once}
use Rattle.result_file.proofs.laws.file_is_refused_once.Goals as goal

pub returns-clause-wrong : goal.returns-clause-wrong
returns-clause-wrong c = λ circuit file fault is. file_wrong circuit is file fault

pub returns-clause-once : goal.returns-clause-once
returns-clause-once c = λ circuit file fault other is. file_once circuit is file fault other
