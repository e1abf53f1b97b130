use Rattle.std.proofs.Common.{◌∙◌, sym, arith}
use Rattle.std.specs.Prelude.{if◌then◌else◌}
use Rattle.net_model.specs.declared.fault.Site.TheVariants.{Pin}
use Rattle.net_model.specs.declared.fault.Fault.TheVariants.{Stuck}
use Rattle.net_model.specs.Fault.{stuck_pin}
use Rattle.net_model.specs.Answer.{bit_at}
use Rattle.fault_heads.proofs.SeenPins.{seen_at}
use Rattle.fault_heads.proofs.pins.chosen_lanes.Goals as goal

pub returns : goal.returns
returns c = λ lane free is.
    let stuck = stuck_pin (Stuck (Pin c.args.gate c.args.pin) (bit_at c.args.seen lane)) c.args.gate in
    let pins = c.args.pins.now in
    let first = c.pin_lanes.ensures lane free is ∙ sym (seen_at stuck free pins 0 (omega arith)) in
    let zero = c.pin_lanes-zero.ensures lane free is ∙ sym (seen_at stuck free pins 1 (omega arith)) in
    let one = c.pin_lanes-one.ensures lane free is ∙ sym (seen_at stuck free pins 2 (omega arith)) in
    c.select.ensures lane is.within ∙ (λ i. if first i then one i else zero i)
