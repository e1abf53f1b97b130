use Rattle.std.proofs.Common.{◌≡◌, ◌∙◌, subst, arith}
use Rattle.net_model.specs.Circuit.{line_count}
use Rattle.fault_list.specs.Scope.{AreMarksOfTest, begins_at}
use Rattle.fault_list.proofs.Marks.{marks_none, marks_more}
use Rattle.fault_list.proofs.scope.first_lines.Goals as goal

pub loop-line-init : goal.loop-line-init
loop-line-init c = record {
  marks = marks_none (begins_at c.args.f.now c.args.g.now) c.in_ok-marks.marks.items c.in_ok-marks.ensures.items;
  room = c.in_ok-marks.ensures.exact ∙ c.lines.ensures.value;
}

pub push_reserved-requires : goal.push_reserved-requires
push_reserved-requires c =
    omega (arith, c.loop-line.invariant.marks.whole, c.loop-line.marks.ok.0, c.loop-line.invariant.room, c.loop-line-test.true, c.lines-line-end.ensures.value)

pub loop-line-preserved : goal.loop-line-preserved
loop-line-preserved c = record {
  marks =
      rw c.push_reserved.ensures.items
      (marks_more (begins_at c.args.f.now c.args.g.now) c.loop-line.line c.loop-line.marks.items c.begins_at.result c.begins_at.ensures c.loop-line.invariant.marks);
  room = c.push_reserved.ensures.capacity ∙ c.loop-line.invariant.room;
}

pub returns : goal.returns
returns c =
    let all : c.loop-line.line ≡ line_count c.args.circuit.now = omega (arith, c.loop-line-test.false, c.loop-line.auto.line-end, c.lines-line-end.ensures.value) in
    subst (λ n. AreMarksOfTest (begins_at c.args.f.now c.args.g.now) n c.loop-line.marks.items) all c.loop-line.invariant.marks
