use Rattle.std.proofs.Common.{◌≡◌, take}
use Rattle.std.specs.Prelude.{filter_map}
use Rattle.scan_cut.specs.Lines.{looked_up_gate}
use Rattle.scan_cut.proofs.parts.gates.Given as goal

abbrev pub invariant-loop-statement : goal.invariant-loop-statement
invariant-loop-statement l = l.gates.items ≡ filter_map (looked_up_gate l.lines) (take l.statement-index l.statements)
