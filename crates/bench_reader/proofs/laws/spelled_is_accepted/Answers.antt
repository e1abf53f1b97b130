use Rattle.bench_reader.proofs.SpelledLemmas.{accepted}
use Rattle.bench_reader.proofs.laws.spelled_is_accepted.Goals as goal

pub returns : goal.returns
returns c = accepted
