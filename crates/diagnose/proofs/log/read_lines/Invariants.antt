use Rattle.diagnose.proofs.LogLemmas.{IsLogSoFar}
use Rattle.diagnose.proofs.log.read_lines.Given as goal

abbrev pub invariant-loop-pattern : goal.invariant-loop-pattern
invariant-loop-pattern l = IsLogSoFar l.patterns l.positions l.bytes l.pattern l.observed l.rest
