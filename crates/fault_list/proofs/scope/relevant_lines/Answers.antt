use Rattle.std.proofs.Common.{◌≡◌, ◌∙◌, ◌+◌, ◌-◌, ◌<◌, ℕ, List, false, length, get_or, sym, subst, arith}
use Rattle.std.specs.Prelude.{Bool}
use Rattle.std.proofs.lemmas.List.{get_or_read}
use Rattle.std.proofs.lemmas.Option.{slice_get-get_or}
use Rattle.net_model.specs.Circuit.{Circuit, IsCircuit, line_count}
use Rattle.net_model.specs.Order.{IsOrder}
use Rattle.net_model.specs.Answer.{bit_at}
use Rattle.net_model.proofs.Orders.{order_only}
use Rattle.net_model.proofs.SetSoFar.{fits_from}
use Rattle.fault_list.specs.Scope.{MarksLines}
use Rattle.fault_list.proofs.Relevant.{RelevantFrom, relevant_none, relevant_more, relevant_skip, relevant_all}
use Rattle.fault_list.proofs.scope.relevant_lines.Goals as goal

pub loop-i-init : goal.loop-i-init
loop-i-init c = relevant_none c.args.circuit.now c.order-order.ensures.circuit c.args.f.now c.args.g.now c.order-order.result.now c.order-order.ensures.order c.args.reached.now c.in_ok-marks.marks.items c.requires c.in_ok-marks.ensures

pub index-requires : goal.index-requires
index-requires c =
    let gate = order_only c.args.circuit.now (fits_from c.args.circuit.now c.order-order.ensures.circuit) c.order-order.result.now c.order-order.ensures.order (c.loop-i.i - 1) (omega arith) in
    omega (arith, c.loop-i.invariant.whole, c.loop-i.marks.ok.0, gate.1)

pub gate-requires-clause-from : goal.gate-requires-clause-from
gate-requires-clause-from c = (order_only c.args.circuit.now (fits_from c.args.circuit.now c.order-order.ensures.circuit) c.order-order.result.now c.order-order.ensures.order (c.loop-i.i - 1) (omega arith)).0

pub gate-requires-clause-below : goal.gate-requires-clause-below
gate-requires-clause-below c = (order_only c.args.circuit.now (fits_from c.args.circuit.now c.order-order.ensures.circuit) c.order-order.result.now c.order-order.ensures.order (c.loop-i.i - 1) (omega arith)).1

-- the bit that was read of the line at a place of the order
mark_at : (c : Circuit) → IsCircuit c → (order : List ℕ) → IsOrder c order → (marks : List Bool) (i : ℕ) (mark : Bool) → i < length order → length marks ≡ line_count c
    → mark ≡ get_or marks (get_or order i 0) mark → bit_at marks (get_or order i 0) ≡ mark
mark_at c is order sorted marks i mark h whole read =
    sym (get_or_read marks (get_or order i 0) mark (omega (arith, whole, (order_only c (fits_from c is) order sorted i h).1)) read false)

pub loop-i-preserved-then-index : goal.loop-i-preserved-then-index
loop-i-preserved-then-index c =
    let circuit = c.args.circuit.now in
    let order = c.order-order.result.now in
    let marks = c.loop-i.marks.items in
    let i = c.loop-i.i - 1 in
    let next : i + 1 ≡ c.loop-i.i = omega arith in
    let marked = mark_at circuit c.order-order.ensures.circuit order c.order-order.ensures.order marks i c.index.result.now (omega arith) c.loop-i.invariant.whole c.index.ensures ∙ c.if-index.true in
    let more = subst (λ (pins : List ℕ). MarksLines pins marks c.mark_lines.new.marks.items) (c.as_slice.ensures ∙ sym c.gate.ensures.pins) c.mark_lines.ensures in
    relevant_more circuit c.order-order.ensures.circuit c.args.f.now c.args.g.now order c.order-order.ensures.order i (get_or order i 0) marks c.mark_lines.new.marks.items (slice_get-get_or order i 0 (omega arith)) marked more
    (subst (λ n. RelevantFrom circuit c.args.f.now c.args.g.now order n marks) (sym next) c.loop-i.invariant)

pub loop-i-preserved : goal.loop-i-preserved
loop-i-preserved c =
    let order = c.order-order.result.now in
    let i = c.loop-i.i - 1 in
    let next : i + 1 ≡ c.loop-i.i = omega arith in
    let unmarked = mark_at c.args.circuit.now c.order-order.ensures.circuit order c.order-order.ensures.order c.loop-i.marks.items i c.index.result.now (omega arith) c.loop-i.invariant.whole c.index.ensures ∙ c.if-index.false in
    relevant_skip c.args.circuit.now c.order-order.ensures.circuit c.args.f.now c.args.g.now order c.order-order.ensures.order i (get_or order i 0) c.loop-i.marks.items (slice_get-get_or order i 0 (omega arith)) unmarked
    (subst (λ n. RelevantFrom c.args.circuit.now c.args.f.now c.args.g.now order n c.loop-i.marks.items) (sym next) c.loop-i.invariant)

pub returns : goal.returns
returns c =
    let none : c.loop-i.i ≡ 0 = omega arith in
    relevant_all c.args.circuit.now c.order-order.ensures.circuit c.args.f.now c.args.g.now c.order-order.result.now c.order-order.ensures.order c.loop-i.marks.items
    (subst (λ n. RelevantFrom c.args.circuit.now c.args.f.now c.args.g.now c.order-order.result.now n c.loop-i.marks.items) none c.loop-i.invariant)
