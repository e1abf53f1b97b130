use Rattle.word_sim.proofs.Counted.{stream-append}
use Rattle.word_sim.proofs.laws.stream_continues.Goals as goal

pub returns : goal.returns
returns c = stream-append
