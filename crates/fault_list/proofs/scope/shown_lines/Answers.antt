use Rattle.std.proofs.Common.{◌<◌, length, ap}
use Rattle.net_model.specs.Circuit.{line_count}
use Rattle.fault_list.proofs.Marks.{shown_none, shown_more, shown_skip}
use Rattle.fault_list.proofs.scope.shown_lines.Goals as goal
use Rattle.fault_list.proofs.scope.shown_lines.Goals.{then-reached-at, else-reached-at}

pub loop-at-init : goal.loop-at-init
loop-at-init c =
    shown_none c.args.circuit.now.positions c.args.reached.now (line_count c.args.circuit.now) c.in_ok-marks.marks.items
    (rw c.lines.ensures.value at (c.in_ok-marks.ensures.items_if_clones_equal (λ y e. e)))

pub loop-at-preserved : goal.loop-at-preserved
loop-at-preserved c =
    let positions = c.args.circuit.now.positions in
    let reached = c.args.reached.now in
    let at = c.loop-at.at in
    let lines = line_count c.args.circuit.now in
    let marks = c.loop-at.marks.items in
    let same = c.positions-line-items.ensures.value in
    let within : at < length positions = rw same at c.loop-at-test.true in
    elim c.if-reached-at.branch [
      | then-reached-at w ↦
          rw (ap (λ v. v.items) w.marks-is, same)
          (shown_more positions reached at lines marks within (rw same at (c.positions-line-items.ensures.inside at 0 c.loop-at-test.true)) w.if-reached-at.true c.loop-at.invariant)
      | else-reached-at w ↦ rw (ap (λ v. v.items) w.marks-is) (shown_skip positions reached at lines marks w.if-reached-at.false c.loop-at.invariant)
    ]
