use Rattle.std.proofs.Common.{◌≡◌, ◌∙◌, get_or, refl, sym, ap, arith}
use Rattle.std.specs.Prelude.{◌||◌}
use Rattle.std.specs.List.{list_any}
use Rattle.net_model.specs.Answer.{bit_at}
use Rattle.net_model.specs.Circuit.{pins_of}
use Rattle.net_model.proofs.Orders.{order_only}
use Rattle.net_model.proofs.SetSoFar.{fits_from}
use Rattle.fault_list.specs.Scope.{begins_at}
use Rattle.fault_list.proofs.Split.{split_none, split_more, split_all}
use Rattle.fault_list.proofs.scope.split_lines.Goals as goal
use Rattle.fault_list.proofs.scope.split_lines.Goals.{then-begins_at, else-begins_at}

pub loop-line-init : goal.loop-line-init
loop-line-init c = split_none c.args.circuit.now c.order-line-items.ensures.circuit c.args.f.now c.args.g.now c.order-line-items.result.now c.order-line-items.ensures.order c.in_ok-marks.marks.items c.in_ok-marks.ensures

pub gate-requires-clause-from : goal.gate-requires-clause-from
gate-requires-clause-from c = (order_only c.args.circuit.now (fits_from c.args.circuit.now c.order-line-items.ensures.circuit) c.order-line-items.result.now c.order-line-items.ensures.order c.loop-line.line-index c.loop-line-test.true).0

pub gate-requires-clause-below : goal.gate-requires-clause-below
gate-requires-clause-below c = (order_only c.args.circuit.now (fits_from c.args.circuit.now c.order-line-items.ensures.circuit) c.order-line-items.result.now c.order-line-items.ensures.order c.loop-line.line-index c.loop-line-test.true).1

pub index_mut-requires : goal.index_mut-requires
index_mut-requires c =
    let gate = order_only c.args.circuit.now (fits_from c.args.circuit.now c.order-line-items.ensures.circuit) c.order-line-items.result.now c.order-line-items.ensures.order c.loop-line.line-index c.loop-line-test.true in
    omega (arith, c.loop-line.invariant.whole, c.loop-line.marks.ok.0, gate.1)

pub loop-line-preserved : goal.loop-line-preserved
loop-line-preserved c =
    let circuit = c.args.circuit.now in
    let order = c.order-line-items.result.now in
    let marks = c.loop-line.marks.items in
    let line = get_or order c.loop-line.line-index 0 in
    let begins = begins_at c.args.f.now c.args.g.now line in
    let any = list_any (bit_at marks) (pins_of circuit line) in
    let right : c.if-begins_at.split ≡ (begins || any) =
    elim c.if-begins_at.branch [
      | then-begins_at w ↦ w.split-is ∙ (w.if-begins_at.true ∙ ap (λ b. b || any) (sym w.if-begins_at.true ∙ c.begins_at.ensures))
      | else-begins_at w ↦
          let pins : c.as_slice-pins.result.now ≡ pins_of circuit line = c.as_slice-pins.ensures ∙ sym c.gate.ensures.pins in
          w.split-is ∙ (w.is_any_marked-split.ensures ∙ ((λ i. list_any (bit_at (w.as_slice.ensures.value i)) (pins i)) ∙ ap (λ b. b || any) (sym w.if-begins_at.false ∙ c.begins_at.ensures)))
    ] in
    split_more circuit c.order-line-items.ensures.circuit c.args.f.now c.args.g.now order c.order-line-items.ensures.order c.loop-line.line-index marks line c.if-begins_at.split c.loop-line-test.true refl right c.loop-line.invariant

pub returns : goal.returns
returns c = split_all c.args.circuit.now c.order-line-items.ensures.circuit c.args.f.now c.args.g.now c.order-line-items.result.now c.order-line-items.ensures.order c.loop-line.line-index c.loop-line.marks.items c.loop-line-test.false c.loop-line.invariant
