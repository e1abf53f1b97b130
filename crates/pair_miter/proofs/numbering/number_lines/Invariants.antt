use Rattle.pair_miter.proofs.NumberedLines.{AreNumbered}
use Rattle.pair_miter.proofs.numbering.number_lines.Given as goal

abbrev pub invariant-loop-line : goal.invariant-loop-line
invariant-loop-line l = AreNumbered l.scope.circuit l.scope.f l.scope.g l.line-items l.line-index l.end l.firsts.items
