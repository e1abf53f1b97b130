use Rattle.std.proofs.Common.{◌≡◌, ◌∙◌, ◌<◌, length, get_or, arith, ap}
use Rattle.net_model.specs.Fault.{stuck_pin}
use Rattle.pair_miter.specs.Miter.{operand_of}
use Rattle.pair_miter.proofs.Operands.{pin_operand, operands_next, operands_all}
use Rattle.pair_miter.proofs.reading.read_pins.Goals as goal

pub loop-pin-preserved : goal.loop-pin-preserved
loop-pin-preserved c =
    let p = c.args.numbering.now in
    let copy = c.args.side in
    let at = c.loop-pin.pin in
    let gate = c.args.gate.now in
    let stuck = c.stuck_pin-stuck.ensures ∙ ap (λ fault. stuck_pin fault c.args.line at) c.fault-fault.ensures in
    let read : get_or c.as_slice-read-items.result.now at 0 ≡ get_or gate.pins at 0 = ap (λ pins. get_or pins at 0) c.as_slice-read-items.ensures in
    let given : c.operand.result ≡ pin_operand p.circuit p.f p.g copy c.args.line gate at = c.operand.ensures ∙ (λ i. operand_of p.circuit p.f p.g copy (stuck i) (read i)) in
    let inside : at < length gate.pins = omega (arith, ap length c.as_slice-read-items.ensures, c.loop-pin-test.true) in
    operands_next p.circuit p.f p.g copy c.args.line gate at c.loop-pin.operands.items c.push.new.self.items c.operand.result inside c.loop-pin.invariant given c.in_ok-push.ensures.items

pub returns : goal.returns
returns c =
    let p = c.args.numbering.now in
    c.loop-pin.invariant ∙ operands_all p.circuit p.f p.g c.args.side c.args.line c.args.gate.now c.loop-pin.pin (omega (arith, ap length c.as_slice-read-items.ensures))
