use Rattle.word_sim.proofs.Counted.{counted_in}
use Rattle.word_sim.proofs.laws.first_block_has_all.Goals as goal

pub returns : goal.returns
returns c = counted_in
