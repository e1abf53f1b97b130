use Rattle.std.proofs.Common.{◌≡◌}
use Rattle.std.specs.Prelude.{slice_range}
use Rattle.word_sim.specs.Block.{block_with}
use Rattle.table_dicts.proofs.pattern_sim.fill_block.Given as goal

abbrev pub invariant-loop-at : goal.invariant-loop-at
invariant-loop-at l = l.block ≡ block_with l.fn.block.sources (slice_range l.patterns l.first l.at)
