use Rattle.std.proofs.Common.{◌≡◌, take}
use Rattle.sample_circuits.proofs.building.gate.Given as goal

abbrev pub invariant-loop-line : goal.invariant-loop-line
invariant-loop-line l = l.pins ≡ take l.line-index l.lines
