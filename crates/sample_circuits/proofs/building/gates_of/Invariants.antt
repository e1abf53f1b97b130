use Rattle.std.proofs.Common.{◌≡◌, take}
use Rattle.std.specs.Prelude.{map}
use Rattle.sample_circuits.specs.Described.{described_gate}
use Rattle.sample_circuits.proofs.building.gates_of.Given as goal

abbrev pub invariant-loop-kind : goal.invariant-loop-kind
invariant-loop-kind l = l.made.items ≡ map described_gate (take l.kind-index l.gates)
