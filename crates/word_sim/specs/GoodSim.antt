-- The circuit without a fault, at the vectors of a block.
use Rattle.std.specs.Prelude.{◌≡◌, ℕ, Bool, List, [], Option, unwrap_or, slice_index_or}
use Rattle.net_model.specs.declared.fault.Fault.TheVariants.{Free}
use Rattle.net_model.specs.Circuit.{Circuit}
use Rattle.net_model.specs.Answer.{bit_at, Agrees}

-- a circuit, and the vectors of the block that was run last, if one was
pub record GoodSim : Type 0 where
  pub circuit : Circuit
  pub ran : Option (List (List Bool))

abbrev pub good_sim_with : Circuit → Option (List (List Bool)) → GoodSim
good_sim_with circuit ran = record { circuit = circuit; ran = ran }

-- the vectors of the block that was run last; none if no block was run
abbrev pub vectors_of : GoodSim → List (List Bool)
vectors_of sim = unwrap_or sim.ran []

-- The line has this bit in the valuation that agrees with the vector of the lane without a fault.
abbrev pub IsGoodBit : GoodSim → ℕ → ℕ → Bool → Type 0
IsGoodBit sim line lane bit = (bits : List Bool) → Agrees sim.circuit Free (slice_index_or (vectors_of sim) lane []) bits → bit ≡ bit_at bits line
