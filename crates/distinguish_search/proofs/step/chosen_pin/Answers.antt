use Rattle.std.proofs.Common.{◌<◌, ◌∙◌, length, sym, ap, arith}
use Rattle.distinguish_search.proofs.Walks.{pin_found, pins_are}
use Rattle.distinguish_search.proofs.step.chosen_pin.Goals as goal

pub returns-then-has_several-clause-open : goal.returns-then-has_several-clause-open
returns-then-has_several-clause-open c =
    let sim = c.args.sim.now in
    let pins = c.as_slice-pins.result.now in
    let same = pins_are sim.circuit c.circuit.result.now c.args.line pins c.gate.result.now.pins c.circuit.ensures.value c.as_slice-pins.ensures c.gate.ensures.pins in
    let within : 0 < length pins = omega (arith, ap length same, c.requires.three) in
    (pin_found sim.circuit sim.f sim.g sim.cube c.args.line 0 pins c.pin_pairs-select.result c.circuit.ensures.circuit c.requires.«open» same within c.pin_pairs-select.ensures (sym c.has_several.ensures ∙ c.if-has_several.true)).1

pub returns-then-has_several-2-clause-open : goal.returns-then-has_several-2-clause-open
returns-then-has_several-2-clause-open c =
    let sim = c.args.sim.now in
    let pins = c.as_slice-pins.result.now in
    let same = pins_are sim.circuit c.circuit.result.now c.args.line pins c.gate.result.now.pins c.circuit.ensures.value c.as_slice-pins.ensures c.gate.ensures.pins in
    let within : c.shown_pin-shown.result < length pins = omega (arith, ap length same, c.requires.three, c.shown_pin-shown.ensures) in
    (pin_found sim.circuit sim.f sim.g sim.cube c.args.line c.shown_pin-shown.result pins c.pin_pairs-data.result c.circuit.ensures.circuit c.requires.«open» same within c.pin_pairs-data.ensures (sym c.has_several-2.ensures ∙ c.if-has_several-2.true)).1
