use Rattle.fault_list.proofs.Split.{SplitSoFar}
use Rattle.fault_list.proofs.scope.split_lines.Given as goal

abbrev pub invariant-loop-line : goal.invariant-loop-line
invariant-loop-line l = SplitSoFar l.circuit l.f l.g l.line-items l.line-index l.marks.items
