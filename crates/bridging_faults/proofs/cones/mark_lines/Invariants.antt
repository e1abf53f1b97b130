use Rattle.std.proofs.Common.{take}
use Rattle.fault_list.specs.Scope.{MarksLines}
use Rattle.bridging_faults.proofs.cones.mark_lines.Given as goal

abbrev pub invariant-loop-line : goal.invariant-loop-line
invariant-loop-line l = MarksLines (take l.line-index l.lines) l.fn.marks.items l.marks.items
