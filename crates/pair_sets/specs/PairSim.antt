-- Two faults of a circuit under a cube.
use Rattle.net_model.specs.declared.fault.Fault.{Fault}
use Rattle.net_model.specs.Circuit.{Circuit}
use Rattle.pair_sets.specs.Cube.{Cube}

pub record PairSim : Type 0 where
  pub circuit : Circuit
  pub f : Fault
  pub g : Fault
  pub cube : Cube

abbrev pub pair_sim : Circuit → Fault → Fault → Cube → PairSim
pair_sim circuit f g cube = record { circuit = circuit; f = f; g = g; cube = cube }

-- the same faults under another cube
abbrev pub with_cube : PairSim → Cube → PairSim
with_cube sim cube = record sim { cube = cube }
