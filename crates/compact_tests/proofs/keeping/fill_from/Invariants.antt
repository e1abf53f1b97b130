use Rattle.std.proofs.Common.{◌≡◌}
use Rattle.std.specs.Prelude.{slice_range}
use Rattle.word_sim.specs.Block.{block_with}
use Rattle.compact_tests.specs.Keeping.{vectors_at}
use Rattle.compact_tests.proofs.keeping.fill_from.Given as goal

abbrev pub invariant-loop-at : goal.invariant-loop-at
invariant-loop-at l = l.block ≡ block_with l.fn.block.sources (slice_range (vectors_at l.patterns l.places) l.first l.at)
