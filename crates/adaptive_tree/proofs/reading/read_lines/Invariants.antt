use Rattle.std.proofs.Common.{length}
use Rattle.adaptive_tree.specs.Reading.{IsReadingPlan, lines_so_far}
use Rattle.adaptive_tree.proofs.ReadingLemmas.{IsReadSoFar}
use Rattle.adaptive_tree.proofs.reading.read_lines.Given as goal

abbrev pub invariant-loop-alloc : goal.invariant-loop-alloc
invariant-loop-alloc l = record { reading : IsReadingPlan l.reader; so_far : IsReadSoFar l.bytes (lines_so_far l.reader.plan) l.number l.rest }

abbrev pub decreases-loop-alloc : goal.decreases-loop-alloc
decreases-loop-alloc l = length l.rest
