-- What the parts of a circuit describe.
use Rattle.std.specs.Prelude.{ℕ, List, map}
use Rattle.std.specs.Borrow.{Bor}
use Rattle.net_model.specs.declared.gate.Gate.{Gate}
use Rattle.net_model.specs.declared.gate.Kind.{Kind}
use Rattle.net_model.specs.Circuit.{Circuit, circuit_with}
use Rattle.sample_circuits.specs.declared.building.CircuitParts.{CircuitParts}

-- The gate of this kind that reads these lines.
abbrev pub described_gate : Kind × Bor (List ℕ) → Gate
described_gate gate = record { kind = gate.0; pins = gate.1.now }

-- The circuit whose sources, gates and positions a test writes down.
abbrev pub circuit_of : CircuitParts → Circuit
circuit_of parts = circuit_with parts.sources (map described_gate parts.gates.now) parts.positions.now
