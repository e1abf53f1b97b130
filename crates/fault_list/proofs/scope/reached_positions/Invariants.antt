use Rattle.net_model.specs.Scope.{is_reached}
use Rattle.fault_list.specs.Scope.{AreMarksOfTest}
use Rattle.fault_list.proofs.scope.reached_positions.Given as goal

abbrev pub invariant-loop-at : goal.invariant-loop-at
invariant-loop-at l = AreMarksOfTest (is_reached l.circuit l.f l.g) l.at l.marks.items
