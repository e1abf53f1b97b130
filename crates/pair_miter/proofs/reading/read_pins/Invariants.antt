use Rattle.std.proofs.Common.{◌≡◌, take}
use Rattle.pair_miter.specs.Miter.{gate_operands}
use Rattle.pair_miter.proofs.reading.read_pins.Given as goal

abbrev pub invariant-loop-pin : goal.invariant-loop-pin
invariant-loop-pin l = l.operands.items ≡ take l.pin (gate_operands l.numbering.circuit l.numbering.f l.numbering.g l.side l.line l.gate)
