use Rattle.std.proofs.Common.{◌≡◌, ◌∙◌, [], inl, inr, ap, subst, arith}
use Rattle.net_model.specs.Circuit.{line_count, pins_of}
use Rattle.net_model.specs.Topological.{parts_circuit, open_pins}
use Rattle.net_model.proofs.Wired.{few_pins_of}
use Rattle.net_model.proofs.QueueSteps.{IsStart, start_none, start_more, start_done}
use Rattle.net_model.proofs.topological.ready_gates.Goals as goal
use Rattle.net_model.proofs.topological.ready_gates.Goals.{then-pins-eq0+in_ok-push-2, else-pins-eq0}

pub gate_count-pins-requires : goal.gate_count-pins-requires
gate_count-pins-requires c =
    rw c.pins_of.ensures.value (omega (arith, few_pins_of (parts_circuit c.args.parts.now) c.requires c.loop-line.line))

pub loop-line-init : goal.loop-line-init
loop-line-init c = rw c.new-order.ensures.items (start_none (parts_circuit c.args.parts.now) c.in_ok-waits.waits.items (c.in_ok-waits.ensures.items_if_clones_equal (λ y e. e)))

pub loop-line-preserved : goal.loop-line-preserved
loop-line-preserved c =
    let circuit = parts_circuit c.args.parts.now in
    let line = c.loop-line.line in
    let pins : c.gate_count-pins.result ≡ open_pins circuit.sources [] (pins_of circuit line) = rw c.pins_of.ensures.value at c.gate_count-pins.ensures in
    start_more circuit line c.loop-line.waits.items c.loop-line.order.items c.loop-line.invariant c.loop-line.auto.line c.gate_count-pins.result pins c.push.new.self.items c.if-pins-eq0.order.items c.in_ok-push.ensures.items
    (elim c.if-pins-eq0.branch [
      | then-pins-eq0+in_ok-push-2 w ↦ inl (w.if-pins-eq0.true, ap (λ v. v.items) w.order-is ∙ w.in_ok-push-2.ensures.items)
      | else-pins-eq0 w ↦ inr (w.if-pins-eq0.false, ap (λ v. v.items) w.order-is)
    ])

pub returns : goal.returns
returns c =
    let circuit = parts_circuit c.args.parts.now in
    let all : c.loop-line.line ≡ line_count circuit = omega (arith, c.len.ensures, c.args.parts.now.gates.ok.0) in
    start_done circuit c.loop-line.waits.items c.loop-line.order.items (subst (λ n. IsStart circuit n c.loop-line.waits.items c.loop-line.order.items) all c.loop-line.invariant)
