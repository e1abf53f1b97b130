use Rattle.std.proofs.Common.{◌≡◌, ◌∙◌, ap, sym, subst, arith}
use Rattle.std.specs.Prelude.{Some}
use Rattle.net_model.specs.declared.fault.Site.TheVariants.{Pin}
use Rattle.net_model.specs.declared.fault.Fault.TheVariants.{Stuck}
use Rattle.net_model.specs.Fault.{stuck_pin}
use Rattle.net_model.specs.Gate.{operation_value, operation_of, inverted}
use Rattle.net_model.specs.Circuit.{Circuit, gate_at}
use Rattle.net_model.specs.Answer.{bit_at, seen_bits}
use Rattle.net_model.proofs.Wired.{few_pins}
use Rattle.fault_heads.specs.Turned.{vector_at}
use Rattle.fault_heads.proofs.SeenPins.{driven_gate}
use Rattle.fault_heads.proofs.pins.value_with_pin.Goals as goal
use Rattle.fault_heads.proofs.pins.value_with_pin.Goals.{in-Folded, in-Chosen}

pub folded_lanes-lanes-requires-clause-few : goal.folded_lanes-lanes-requires-clause-few
folded_lanes-lanes-requires-clause-few c =
    rw c.as_slice-pins.ensures (omega (arith, few_pins c.circuit.result.now c.gate-read.ensures.circuit c.args.gate c.gate-read.result.now c.gate-read.ensures.value))

pub returns-clause-value : goal.returns-clause-value
returns-clause-value c = λ lane free is.
    let f = Stuck (Pin c.args.gate c.args.pin) (bit_at c.args.seen lane) in
    let gate = c.gate-read.result.now in
    let seen = seen_bits (stuck_pin f c.args.gate) free gate.pins in
    let drives = subst (λ (n : Circuit). gate_at n c.args.gate ≡ Some gate) c.circuit.ensures c.gate-read.ensures.value in
    let made : bit_at c.match-operation.lanes lane ≡ operation_value (operation_of gate.kind) seen = elim c.match-operation.branch [
      | in-Folded w ↦ ap (λ row. bit_at row lane) w.lanes-is ∙ (rw c.as_slice-pins.ensures at (w.folded_lanes-lanes.ensures lane free is)) ∙ ap (λ o. operation_value o seen) (sym w.in-Folded.is ∙ c.operation.ensures)
      | in-Chosen w ↦ ap (λ row. bit_at row lane) w.lanes-is ∙ (rw c.as_slice-pins.ensures at (w.chosen_lanes-lanes.ensures lane free is)) ∙ ap (λ o. operation_value o seen) (sym w.in-Chosen.is ∙ c.operation.ensures)
    ] in
    c.inverted.ensures lane is.within ∙ ((λ i. inverted (c.inverts.ensures i) (made i)) ∙ sym (driven_gate c.args.good.now.circuit f (vector_at c.args.good.now lane) free c.args.gate gate drives))
