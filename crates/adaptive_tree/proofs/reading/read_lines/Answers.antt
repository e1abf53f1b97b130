use Rattle.std.proofs.Common.{◌∙◌, ◌+◌, List, length, ap, sym, subst, arith}
use Rattle.adaptive_tree.specs.declared.steps.Plan.{Plan}
use Rattle.adaptive_tree.specs.PlanNode.{HasNode}
use Rattle.adaptive_tree.specs.PlanText.{PlanLine}
use Rattle.adaptive_tree.specs.WellFormed.{IsTextOf}
use Rattle.adaptive_tree.specs.Reading.{lines_so_far}
use Rattle.adaptive_tree.proofs.ReadingLemmas.{IsReadSoFar, head_refused, head_read, lines_of_head, plan_refused, step_read, form_shorter, whole_node, end_read, plan_read}
use Rattle.adaptive_tree.proofs.reading.read_lines.Goals as goal

pub returns-in-Err-clause-refused : goal.returns-in-Err-clause-refused
returns-in-Err-clause-refused c = head_refused c.args.bytes.now c.in-Err.kind c.requires c.in-Err.ensures

pub loop-alloc-init : goal.loop-alloc-init
loop-alloc-init c = record {
  reading = c.new-reader.ensures.reading;
  so_far =
      let head = c.in-Ok.head in
      let sizes = c.empty_plan.ensures in
      let plan = c.new-reader.ensures.plan in
      let lines = lines_of_head c.new-reader.result.plan head.positions head.patterns head.classes (ap (λ (p : Plan). p.positions) plan ∙ sizes.positions) (ap (λ (p : Plan). p.patterns) plan ∙ sizes.patterns) (ap (λ (p : Plan). p.classes) plan ∙ sizes.classes) (ap (λ (p : Plan). p.steps) plan ∙ sizes.steps) in
      subst (λ (lines : List PlanLine). IsReadSoFar c.args.bytes.now lines 2 head.rest.now) (sym lines) (head_read c.args.bytes.now head.positions head.patterns head.classes head.rest.now c.in-Ok.ensures);
}

pub returns-in-Err-right_line-clause-refused : goal.returns-in-Err-right_line-clause-refused
returns-in-Err-right_line-clause-refused c =
    let l = c.loop-alloc in
    plan_refused c.args.bytes.now (lines_so_far l.reader.plan) l.number l.rest.now c.in-Err-right_line.kind l.invariant.so_far c.requires c.in-Err-right_line.ensures

pub overflow_add-number : goal.overflow_add-number
overflow_add-number c = omega (arith, c.loop-alloc.invariant.so_far.room, c.requires)

pub loop-alloc-preserved : goal.loop-alloc-preserved
loop-alloc-preserved c =
    let l = c.loop-alloc in
    let line = c.in-Ok-right_line.line in
    record {
      reading = c.in_ok-add.ensures.reading;
      so_far = step_read c.args.bytes.now l.reader c.add.new.self l.number l.rest.now line.form line.rest.now l.invariant.so_far l.invariant.reading c.in-Ok-right_line.ensures.0 c.in-Ok-right_line.ensures.1 c.in_ok-add.ensures;
    }

pub loop-alloc-smaller : goal.loop-alloc-smaller
loop-alloc-smaller c = form_shorter c.loop-alloc.rest.now c.in-Ok-right_line.line.form c.in-Ok-right_line.line.rest.now c.in-Ok-right_line.ensures.0

pub returns-in-Err-end_line-clause-refused : goal.returns-in-Err-end_line-clause-refused
returns-in-Err-end_line-clause-refused c =
    let l = c.loop-alloc in
    plan_refused c.args.bytes.now (lines_so_far l.reader.plan) l.number l.rest.now c.in-Err-end_line.kind l.invariant.so_far c.requires
    (c.in-Err-end_line.ensures l.reader.plan (whole_node l.reader l.invariant.reading (sym c.loop-alloc-test.ensures)))

pub returns-in-Ok-check_nothing-clause-read : goal.returns-in-Ok-check_nothing-clause-read
returns-in-Ok-check_nothing-clause-read c =
    let l = c.loop-alloc in
    let root : HasNode l.reader.plan = whole_node l.reader l.invariant.reading (sym c.loop-alloc-test.ensures) in
    subst (λ (plan : Plan). IsTextOf plan c.args.bytes.now) (sym c.into_plan.ensures)
    (plan_read c.args.bytes.now l.reader.plan root (l.number + 1) c.in-Ok-end_line.behind.now
    (end_read c.args.bytes.now l.reader.plan root l.number l.rest.now c.in-Ok-end_line.behind.now l.invariant.so_far c.in-Ok-end_line.ensures) c.requires (ap length c.in-Ok-check_nothing.ensures))

pub returns-in-Err-check_nothing-clause-refused : goal.returns-in-Err-check_nothing-clause-refused
returns-in-Err-check_nothing-clause-refused c =
    let l = c.loop-alloc in
    let root : HasNode l.reader.plan = whole_node l.reader l.invariant.reading (sym c.loop-alloc-test.ensures) in
    plan_refused c.args.bytes.now _ (l.number + 1) c.in-Ok-end_line.behind.now c.in-Err-check_nothing.kind
    (end_read c.args.bytes.now l.reader.plan root l.number l.rest.now c.in-Ok-end_line.behind.now l.invariant.so_far c.in-Ok-end_line.ensures) c.requires (c.in-Err-check_nothing.ensures l.reader.plan)
