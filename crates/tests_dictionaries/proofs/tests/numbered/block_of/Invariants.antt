use Rattle.std.proofs.Common.{◌≡◌}
use Rattle.tests_dictionaries.proofs.tests.numbered.block_of.Given as goal

abbrev pub invariant-loop-text : goal.invariant-loop-text
invariant-loop-text l = l.block.sources ≡ l.sources
