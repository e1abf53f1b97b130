use Rattle.fault_list.proofs.Relevant.{RelevantFrom}
use Rattle.fault_list.proofs.scope.relevant_lines.Given as goal

abbrev pub invariant-loop-i : goal.invariant-loop-i
invariant-loop-i l = RelevantFrom l.circuit l.f l.g l.order l.i l.marks.items
