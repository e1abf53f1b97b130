use Rattle.std.proofs.Common.{◌-◌}
use Rattle.fault_list.proofs.Readers.{HasGates}
use Rattle.fault_list.proofs.destinations.destinations.Given as goal

abbrev pub invariant-loop-line : goal.invariant-loop-line
invariant-loop-line l = HasGates l.circuit (l.line - l.circuit.sources) l.found
