use Rattle.std.proofs.Common.{◌≡◌, ◌<◌, ◌+◌, ◌∙◌, ◌++◌, ◌∷◌, [], length, take, ap, arith, sym}
use Rattle.std.specs.Prelude.{false}
use Rattle.std.proofs.lemmas.List.{take_all, take_more}
use Rattle.net_model.specs.declared.fault.Site.TheVariants.{Pin}
use Rattle.net_model.specs.declared.fault.Fault.TheVariants.{Stuck}
use Rattle.net_model.specs.Fault.{stuck_pin}
use Rattle.net_model.specs.Gate.{folded_bit}
use Rattle.net_model.specs.Answer.{bit_at, seen_bits}
use Rattle.net_model.proofs.Seen.{length-seen_bits}
use Rattle.fault_heads.proofs.SeenPins.{seen_at}
use Rattle.fault_heads.proofs.pins.folded_lanes.Goals as goal

pub loop-at-preserved : goal.loop-at-preserved
loop-at-preserved c = λ lane free is.
    let stuck = stuck_pin (Stuck (Pin c.args.gate c.args.pin) (bit_at c.args.seen lane)) c.args.gate in
    let pins = c.args.pins.now in
    let at = c.loop-at.at in
    let all = seen_bits stuck free pins in
    let within : at < length all = omega (arith, length-seen_bits stuck free pins) in
    let here = c.pin_lanes-bits.ensures lane free is ∙ sym (seen_at stuck free pins at (omega arith)) in
    let more : take at all ++ bit_at c.pin_lanes-bits.result lane ∷ [] ≡ take (at + 1) all = ap (λ bit. take at all ++ bit ∷ []) here ∙ sym (take_more all at false within) in
    c.folded_more-lanes.ensures lane (take at all) is.within (c.loop-at.invariant lane free is) ∙ ap (folded_bit c.args.fold) more

pub returns : goal.returns
returns c = λ lane free is.
    let stuck = stuck_pin (Stuck (Pin c.args.gate c.args.pin) (bit_at c.args.seen lane)) c.args.gate in
    let pins = c.args.pins.now in
    c.loop-at.invariant lane free is ∙ ap (folded_bit c.args.fold) (take_all c.loop-at.at (seen_bits stuck free pins) (omega (arith, length-seen_bits stuck free pins)))
