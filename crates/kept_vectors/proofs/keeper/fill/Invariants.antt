use Rattle.std.proofs.Common.{◌≡◌, take}
use Rattle.word_sim.specs.Block.{block_with}
use Rattle.kept_vectors.proofs.keeper.fill.Given as goal

abbrev pub invariant-loop-v : goal.invariant-loop-v
invariant-loop-v l = l.block ≡ block_with l.fn.block.sources (take l.v-index l.vectors)
