use Rattle.std.proofs.Common.{◌∙◌, sym, arith}
use Rattle.std.specs.Prelude.{None, if◌then◌else◌}
use Rattle.fault_sim.specs.TurnedLines.{turned_bits}
use Rattle.fault_heads.proofs.SeenPins.{seen_at}
use Rattle.fault_sim.proofs.turned.chosen_lanes.Goals as goal

pub returns : goal.returns
returns c = λ lane free at.
    let bits = turned_bits free c.args.rows.now lane in
    let pins = c.args.pins.now in
    let first = c.line_lanes.ensures lane free at ∙ sym (seen_at (λ pin. None) bits pins 0 (omega arith)) in
    let zero = c.line_lanes-zero.ensures lane free at ∙ sym (seen_at (λ pin. None) bits pins 1 (omega arith)) in
    let one = c.line_lanes-one.ensures lane free at ∙ sym (seen_at (λ pin. None) bits pins 2 (omega arith)) in
    c.select.ensures lane at.within ∙ (λ i. if first i then one i else zero i)
