use Rattle.net_model.specs.Circuit.{line_count}
use Rattle.fault_list.proofs.Marks.{ShownBelow}
use Rattle.fault_list.proofs.scope.shown_lines.Given as goal

abbrev pub invariant-loop-at : goal.invariant-loop-at
invariant-loop-at l = ShownBelow l.circuit.positions l.reached l.at (line_count l.circuit) l.marks.items
