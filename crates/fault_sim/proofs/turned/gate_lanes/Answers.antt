use Rattle.std.proofs.Common.{◌≡◌, ◌∙◌, ap, sym}
use Rattle.net_model.specs.Gate.{operation_value, operation_of, inverted}
use Rattle.net_model.specs.Answer.{bit_at}
use Rattle.fault_sim.specs.TurnedLines.{turned_bits, read_bits}
use Rattle.fault_sim.proofs.turned.gate_lanes.Goals as goal
use Rattle.fault_sim.proofs.turned.gate_lanes.Goals.{in-Folded, in-Chosen}

pub returns : goal.returns
returns c = λ lane free at.
    let kind = c.args.gate.now.kind in
    let seen = read_bits (turned_bits free c.args.rows.now lane) c.args.gate.now.pins in
    let made : bit_at c.match-operation.lanes lane ≡ operation_value (operation_of kind) seen = elim c.match-operation.branch [
      | in-Folded w ↦ ap (λ row. bit_at row lane) w.lanes-is ∙ (rw c.as_slice-pins.ensures at (w.folded_lanes-lanes.ensures lane free at)) ∙ ap (λ o. operation_value o seen) (sym w.in-Folded.is ∙ c.operation.ensures)
      | in-Chosen w ↦ ap (λ row. bit_at row lane) w.lanes-is ∙ (rw c.as_slice-pins.ensures at (w.chosen_lanes-lanes.ensures lane free at)) ∙ ap (λ o. operation_value o seen) (sym w.in-Chosen.is ∙ c.operation.ensures)
    ] in
    c.inverted.ensures lane at.within ∙ (λ i. inverted (c.inverts.ensures i) (made i))
