use Rattle.std.proofs.Common.{◌≡◌, ◌<◌, ◌+◌, ◌∙◌, ◌++◌, ◌∷◌, [], length, take, sym, ap, arith}
use Rattle.std.specs.Prelude.{false}
use Rattle.std.proofs.lemmas.List.{take_all, take_more}
use Rattle.net_model.specs.Gate.{folded_bit}
use Rattle.net_model.specs.Answer.{bit_at}
use Rattle.word_sim.specs.SeenLane.{seen_lane}
use Rattle.word_sim.proofs.SeenLane.{length-seen_lane, seen_at}
use Rattle.word_sim.proofs.gate_lanes.folded_lanes.Goals as goal

pub loop-pin-preserved : goal.loop-pin-preserved
loop-pin-preserved c = λ lane h.
    let rows = c.args.rows.now in
    let pins = c.args.pins.now in
    let i = c.loop-pin.pin-index in
    let seen = seen_lane rows pins lane in
    let within : i < length seen = omega (arith, length-seen_lane rows pins lane) in
    let here = seen_at rows pins i lane c.index-rows-pin.result c.loop-pin-test.true c.requires c.index-rows-pin.is in
    let more : take i seen ++ bit_at c.index-rows-pin.result lane ∷ [] ≡ take (i + 1) seen = ap (λ bit. take i seen ++ bit ∷ []) (sym here) ∙ sym (take_more seen i false within) in
    c.folded_more-lanes.ensures lane (take i seen) h (c.loop-pin.invariant lane h) ∙ ap (folded_bit c.args.fold) more

pub returns : goal.returns
returns c = λ lane h.
    let seen = seen_lane c.args.rows.now c.args.pins.now lane in
    c.loop-pin.invariant lane h ∙ ap (folded_bit c.args.fold) (take_all c.loop-pin.pin-index seen (omega (arith, length-seen_lane c.args.rows.now c.args.pins.now lane)))
