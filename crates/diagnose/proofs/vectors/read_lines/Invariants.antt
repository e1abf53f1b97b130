use Rattle.std.proofs.Common.{length}
use Rattle.diagnose.proofs.VectorLemmas.{IsListSoFar}
use Rattle.diagnose.proofs.vectors.read_lines.Given as goal

abbrev pub invariant-loop-rest : goal.invariant-loop-rest
invariant-loop-rest l = IsListSoFar l.sources l.bytes l.number l.vectors l.rest

abbrev pub decreases-loop-rest : goal.decreases-loop-rest
decreases-loop-rest l = length l.rest
