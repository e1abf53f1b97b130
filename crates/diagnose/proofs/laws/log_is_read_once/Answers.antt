use Rattle.diagnose.proofs.LogLemmas.{log_refused_wrong, log_refused_once, log_read_once}
use Rattle.diagnose.proofs.laws.log_is_read_once.Goals as goal

pub returns : goal.returns
returns c = record {
  wrong = λ patterns positions text observed kind line small. log_refused_wrong patterns positions small text observed kind line;
  refusal = λ patterns positions text kind other line number small. log_refused_once patterns positions small text kind other line number;
  reading = log_read_once;
}
