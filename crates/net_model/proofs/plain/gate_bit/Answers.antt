use Rattle.std.proofs.Common.{◌∙◌, sym, ap, arith}
use Rattle.std.specs.Prelude.{unwrap_or}
use Rattle.net_model.specs.Gate.{gate_value}
use Rattle.net_model.specs.Fault.{stuck_stem}
use Rattle.net_model.proofs.Seen.{length-seen_bits}
use Rattle.net_model.proofs.Wired.{few_pins}
use Rattle.net_model.proofs.SetSoFar.{line_bit-gate}
use Rattle.net_model.proofs.plain.gate_bit.Goals as goal

pub pin_bits-requires-clause-few : goal.pin_bits-requires-clause-few
pin_bits-requires-clause-few c = omega (arith, few_pins _ c.gate-gate.ensures.circuit _ c.gate-gate.result.now c.gate-gate.ensures.value)

pub gate_value-bit-requires : goal.gate_value-bit-requires
gate_value-bit-requires c = rw (c.in_ok-bits.ensures, length-seen_bits) c.gate-gate.ensures.arity

pub returns : goal.returns
returns c = λ v.
    c.unwrap_or.ensures
    ∙ ap (λ o. unwrap_or o c.gate_value-bit.result) c.stuck_stem.ensures
    ∙ ap (unwrap_or (stuck_stem c.args.fault c.args.line)) (c.gate_value-bit.ensures ∙ ap (gate_value c.gate-gate.result.now.kind) c.in_ok-bits.ensures)
    ∙ sym (line_bit-gate c.args.circuit.now c.args.fault v c.args.carried.now c.args.line c.gate-gate.result.now c.gate-gate.ensures.value)
