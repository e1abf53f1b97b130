use Rattle.std.proofs.Common.{◌≡◌, ◌∙◌, get_or, refl, sym, ap, subst, arith}
use Rattle.std.specs.Prelude.{◌==◌, ◌||◌}
use Rattle.std.specs.List.{list_any}
use Rattle.std.proofs.lemmas.Bool.{eq-eqb, ne_eqb}
use Rattle.net_model.specs.Answer.{bit_at}
use Rattle.net_model.specs.Circuit.{pins_of}
use Rattle.net_model.proofs.Orders.{order_only}
use Rattle.net_model.proofs.SetSoFar.{fits_from}
use Rattle.fault_list.specs.Scope.{AreMarksOfTest}
use Rattle.bridging_faults.proofs.ConeLemmas.{out_none, out_more, out_all}
use Rattle.bridging_faults.proofs.cones.mark_fan_out.Goals as goal
use Rattle.bridging_faults.proofs.cones.mark_fan_out.Goals.{then-from-line, else-from-line}

pub loop-line-init : goal.loop-line-init
loop-line-init c =
    let marks = c.mark_alone.new.marks.items in
    out_none c.args.circuit.now c.order-line-items.ensures.circuit c.order-line-items.result.now c.order-line-items.ensures.order c.args.from marks
    (subst (λ n. AreMarksOfTest (λ line. c.args.from == line) n marks) c.requires c.mark_alone.ensures)

pub gate-requires-clause-from : goal.gate-requires-clause-from
gate-requires-clause-from c = (order_only c.args.circuit.now (fits_from c.args.circuit.now c.order-line-items.ensures.circuit) c.order-line-items.result.now c.order-line-items.ensures.order c.loop-line.line-index c.loop-line-test.true).0

pub gate-requires-clause-below : goal.gate-requires-clause-below
gate-requires-clause-below c = (order_only c.args.circuit.now (fits_from c.args.circuit.now c.order-line-items.ensures.circuit) c.order-line-items.result.now c.order-line-items.ensures.order c.loop-line.line-index c.loop-line-test.true).1

pub index_mut-requires : goal.index_mut-requires
index_mut-requires c =
    let gate = order_only c.args.circuit.now (fits_from c.args.circuit.now c.order-line-items.ensures.circuit) c.order-line-items.result.now c.order-line-items.ensures.order c.loop-line.line-index c.loop-line-test.true in
    omega (arith, c.loop-line.invariant.whole, c.loop-line.marks.ok.0, gate.1)

pub loop-line-preserved : goal.loop-line-preserved
loop-line-preserved c =
    let circuit = c.args.circuit.now in
    let from = c.args.from in
    let order = c.order-line-items.result.now in
    let marks = c.loop-line.marks.items in
    let line = get_or order c.loop-line.line-index 0 in
    let any = list_any (bit_at marks) (pins_of circuit line) in
    let right : c.if-from-line.is_led_to ≡ (from == line || any) =
    elim c.if-from-line.branch [
      | then-from-line w ↦
          let here = eq-eqb from line w.if-from-line.true in
          w.is_led_to-is ∙ (here ∙ sym (ap (λ b. b || any) here))
      | else-from-line w ↦
          let pins : c.as_slice-pins.result.now ≡ pins_of circuit line = c.as_slice-pins.ensures ∙ sym c.gate.ensures.pins in
          w.is_led_to-is ∙ (w.is_any_marked-is_led_to.ensures ∙ ((λ i. list_any (bit_at (w.as_slice.ensures.value i)) (pins i)) ∙ sym (ap (λ b. b || any) (ne_eqb from line w.if-from-line.false))))
    ] in
    out_more circuit c.order-line-items.ensures.circuit order c.order-line-items.ensures.order from c.loop-line.line-index marks line c.if-from-line.is_led_to c.loop-line-test.true refl right c.loop-line.invariant

pub returns : goal.returns
returns c = out_all c.args.circuit.now c.order-line-items.ensures.circuit c.order-line-items.result.now c.order-line-items.ensures.order c.args.from c.loop-line.line-index c.loop-line.marks.items c.loop-line-test.false c.loop-line.invariant
