use Rattle.std.proofs.Common.{ap}
use Rattle.word_sim.specs.Block.{Block}
use Rattle.tests_dictionaries.proofs.tests.numbered.block_of.Goals as goal

pub loop-text-init : goal.loop-text-init
loop-text-init c = ap (λ (b : Block). b.sources) c.in_ok-block.ensures
