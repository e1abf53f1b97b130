use Rattle.std.proofs.Common.{◌≡◌}
use Rattle.std.specs.Prelude.{vec_capacity}
use Rattle.net_model.specs.Circuit.{line_count}
use Rattle.fault_list.specs.Scope.{AreMarksOfTest, begins_at}
use Rattle.fault_list.proofs.scope.first_lines.Given as goal

abbrev pub invariant-loop-line : goal.invariant-loop-line
invariant-loop-line l = record {
  marks : AreMarksOfTest (begins_at l.f l.g) l.line l.marks.items;
  room : vec_capacity l.marks ≡ line_count l.circuit;
}
