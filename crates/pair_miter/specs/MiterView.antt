-- The miter of a pair of faults, as the calls that build it and read its models see it.
use Rattle.net_model.specs.declared.fault.Fault.{Fault}
use Rattle.net_model.specs.Circuit.{Circuit}

-- a circuit with two faults, whose miter is meant
pub record Miter : Type 0 where
  pub circuit : Circuit
  pub f : Fault
  pub g : Fault

-- the miter of these two faults of this circuit
abbrev pub miter_with : (circuit : Circuit) (f g : Fault) → Miter
miter_with circuit f g = record { circuit = circuit; f = f; g = g }
