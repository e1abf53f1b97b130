use Rattle.std.proofs.Common.{◌≡◌, ◌∙◌, ◌+◌, ◌-◌, ◌<◌, ℕ, List, false, length, get_or, sym, subst, arith}
use Rattle.std.specs.Prelude.{Bool, ◌==◌}
use Rattle.std.proofs.lemmas.List.{get_or_read}
use Rattle.std.proofs.lemmas.Option.{slice_get-get_or}
use Rattle.net_model.specs.Circuit.{Circuit, IsCircuit, line_count}
use Rattle.net_model.specs.Order.{IsOrder}
use Rattle.net_model.specs.Answer.{bit_at}
use Rattle.net_model.proofs.Orders.{order_only}
use Rattle.net_model.proofs.SetSoFar.{fits_from}
use Rattle.fault_list.specs.Scope.{AreMarksOfTest, MarksLines}
use Rattle.bridging_faults.proofs.ConeLemmas.{FanInFrom, in_none, in_more, in_skip, in_all}
use Rattle.bridging_faults.proofs.cones.mark_fan_in.Goals as goal

pub loop-i-init : goal.loop-i-init
loop-i-init c =
    let marks = c.mark_alone.new.marks.items in
    in_none c.args.circuit.now c.order-order.ensures.circuit c.order-order.result.now c.order-order.ensures.order c.args.to marks c.requires.to
    (subst (λ n. AreMarksOfTest (λ line. c.args.to == line) n marks) c.requires.whole c.mark_alone.ensures)

pub index-requires : goal.index-requires
index-requires c =
    let gate = order_only c.args.circuit.now (fits_from c.args.circuit.now c.order-order.ensures.circuit) c.order-order.result.now c.order-order.ensures.order (c.loop-i.i - 1) (omega arith) in
    omega (arith, c.loop-i.invariant.whole, c.loop-i.marks.ok.0, gate.1)

pub gate-requires-clause-from : goal.gate-requires-clause-from
gate-requires-clause-from c = (order_only c.args.circuit.now (fits_from c.args.circuit.now c.order-order.ensures.circuit) c.order-order.result.now c.order-order.ensures.order (c.loop-i.i - 1) (omega arith)).0

pub gate-requires-clause-below : goal.gate-requires-clause-below
gate-requires-clause-below c = (order_only c.args.circuit.now (fits_from c.args.circuit.now c.order-order.ensures.circuit) c.order-order.result.now c.order-order.ensures.order (c.loop-i.i - 1) (omega arith)).1

-- the bit that was read of the line at a place of the order
mark_at : (c : Circuit) → IsCircuit c → (order : List ℕ) → IsOrder c order → (marks : List Bool) (i : ℕ) (mark : Bool) → i < length order → length marks ≡ line_count c
    → mark ≡ get_or marks (get_or order i 0) mark → bit_at marks (get_or order i 0) ≡ mark
mark_at c is order sorted marks i mark h whole read =
    sym (get_or_read marks (get_or order i 0) mark (omega (arith, whole, (order_only c (fits_from c is) order sorted i h).1)) read false)

pub loop-i-preserved-then-index : goal.loop-i-preserved-then-index
loop-i-preserved-then-index c =
    let circuit = c.args.circuit.now in
    let to = c.args.to in
    let order = c.order-order.result.now in
    let marks = c.loop-i.marks.items in
    let i = c.loop-i.i - 1 in
    let next : i + 1 ≡ c.loop-i.i = omega arith in
    let marked = mark_at circuit c.order-order.ensures.circuit order c.order-order.ensures.order marks i c.index.result.now (omega arith) c.loop-i.invariant.whole c.index.ensures ∙ c.if-index.true in
    let more = subst (λ (pins : List ℕ). MarksLines pins marks c.mark_lines.new.marks.items) (c.as_slice.ensures ∙ sym c.gate.ensures.pins) c.mark_lines.ensures in
    in_more circuit c.order-order.ensures.circuit order c.order-order.ensures.order to i (get_or order i 0) marks c.mark_lines.new.marks.items (slice_get-get_or order i 0 (omega arith)) marked more
    (subst (λ n. FanInFrom circuit to order n marks) (sym next) c.loop-i.invariant)

pub loop-i-preserved : goal.loop-i-preserved
loop-i-preserved c =
    let circuit = c.args.circuit.now in
    let to = c.args.to in
    let order = c.order-order.result.now in
    let marks = c.loop-i.marks.items in
    let i = c.loop-i.i - 1 in
    let next : i + 1 ≡ c.loop-i.i = omega arith in
    let unmarked = mark_at circuit c.order-order.ensures.circuit order c.order-order.ensures.order marks i c.index.result.now (omega arith) c.loop-i.invariant.whole c.index.ensures ∙ c.if-index.false in
    in_skip circuit c.order-order.ensures.circuit order c.order-order.ensures.order to i (get_or order i 0) marks (slice_get-get_or order i 0 (omega arith)) unmarked
    (subst (λ n. FanInFrom circuit to order n marks) (sym next) c.loop-i.invariant)

pub returns : goal.returns
returns c =
    let none : c.loop-i.i ≡ 0 = omega arith in
    in_all c.args.circuit.now c.order-order.ensures.circuit c.order-order.result.now c.order-order.ensures.order c.args.to c.loop-i.marks.items
    (subst (λ n. FanInFrom c.args.circuit.now c.args.to c.order-order.result.now n c.loop-i.marks.items) none c.loop-i.invariant)
