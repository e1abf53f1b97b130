use Rattle.std.proofs.Common.{◌≡◌, ◌<◌, ◌+◌, ◌∙◌, ◌++◌, ◌∷◌, [], length, take, ap, arith, sym}
use Rattle.std.specs.Prelude.{false, None}
use Rattle.std.proofs.lemmas.List.{take_all, take_more}
use Rattle.net_model.specs.Gate.{folded_bit}
use Rattle.net_model.specs.Answer.{bit_at}
use Rattle.net_model.proofs.Seen.{length-seen_bits}
use Rattle.fault_sim.specs.TurnedLines.{turned_bits, read_bits}
use Rattle.fault_heads.proofs.SeenPins.{seen_at}
use Rattle.fault_sim.proofs.turned.folded_lanes.Goals as goal

pub loop-pin-preserved : goal.loop-pin-preserved
loop-pin-preserved c = λ lane free at.
    let bits = turned_bits free c.args.rows.now lane in
    let pins = c.args.pins.now in
    let k = c.loop-pin.pin-index in
    let all = read_bits bits pins in
    let within : k < length all = omega (arith, length-seen_bits (λ pin. None) bits pins) in
    let here = c.line_lanes.ensures lane free at ∙ sym (seen_at (λ pin. None) bits pins k (omega arith)) in
    let more : take k all ++ bit_at c.line_lanes.result lane ∷ [] ≡ take (k + 1) all = ap (λ bit. take k all ++ bit ∷ []) here ∙ sym (take_more all k false within) in
    c.folded_more-lanes.ensures lane (take k all) at.within (c.loop-pin.invariant lane free at) ∙ ap (folded_bit c.args.fold) more

pub returns : goal.returns
returns c = λ lane free at.
    let bits = turned_bits free c.args.rows.now lane in
    let pins = c.args.pins.now in
    c.loop-pin.invariant lane free at ∙ ap (folded_bit c.args.fold) (take_all c.loop-pin.pin-index (read_bits bits pins) (omega (arith, length-seen_bits (λ pin. None) bits pins)))
