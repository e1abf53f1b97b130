use Rattle.std.proofs.Common.{◌≡◌, ◌∙◌, length, ap, arith, sym}
use Rattle.std.specs.Prelude.{if◌then◌else◌}
use Rattle.net_model.specs.Gate.{operation_value}
use Rattle.word_sim.specs.SeenLane.{seen_lane}
use Rattle.word_sim.proofs.SeenLane.{seen_at}
use Rattle.word_sim.proofs.gate_lanes.operation_lanes.Goals as goal

pub bounds-rows-pins : goal.bounds-rows-pins
bounds-rows-pins c = c.requires.inside 1 0 (omega (arith, c.requires.chosen c.in-Chosen.is))

pub bounds-rows-pins-in-Chosen : goal.bounds-rows-pins-in-Chosen
bounds-rows-pins-in-Chosen c = c.requires.inside 2 0 (omega (arith, c.requires.chosen c.in-Chosen.is))

pub bounds-rows-pins-in-Chosen-2 : goal.bounds-rows-pins-in-Chosen-2
bounds-rows-pins-in-Chosen-2 c = c.requires.inside 0 0 (omega (arith, c.requires.chosen c.in-Chosen.is))

pub returns-in-Folded : goal.returns-in-Folded
returns-in-Folded c = λ lane h. c.folded_lanes.ensures lane h ∙ ap (λ o. operation_value o (seen_lane c.args.rows.now c.args.pins.now lane)) (sym c.in-Folded.is)

pub returns-in-Chosen : goal.returns-in-Chosen
returns-in-Chosen c = λ lane h.
    let rows = c.args.rows.now in
    let pins = c.args.pins.now in
    let three : length pins ≡ 3 = c.requires.chosen c.in-Chosen.is in
    let choice = sym (seen_at rows pins 0 lane c.index-rows-pins-in-Chosen-2.result (omega arith) c.requires.inside c.index-rows-pins-in-Chosen-2.is) in
    let zero = sym (seen_at rows pins 1 lane c.index-rows-pins.result (omega arith) c.requires.inside c.index-rows-pins.is) in
    let one = sym (seen_at rows pins 2 lane c.index-rows-pins-in-Chosen.result (omega arith) c.requires.inside c.index-rows-pins-in-Chosen.is) in
    c.select.ensures lane h ∙ (λ i. if choice i then one i else zero i) ∙ ap (λ o. operation_value o (seen_lane rows pins lane)) (sym c.in-Chosen.is)
