use Rattle.std.proofs.Common.{length}
use Rattle.ranked_diag.proofs.ReadingLemmas.{IsPartialSoFar}
use Rattle.ranked_diag.proofs.reading.read_lines.Given as goal

abbrev pub invariant-loop-rest : goal.invariant-loop-rest
invariant-loop-rest l = IsPartialSoFar l.patterns l.positions l.bytes l.number l.least l.partial l.rest

abbrev pub decreases-loop-rest : goal.decreases-loop-rest
decreases-loop-rest l = length l.rest
