-- A fault at the vectors of a block: where the answers differ from the fault-free ones.
use Rattle.std.specs.Prelude.{◌≡◌, ◌≢◌, ℕ, ◌<◌, ◌≤◌, ◌↔◌, Bool, false, List, [], length, slice_index_or, IsTrue}
use Rattle.net_model.specs.declared.fault.Fault.{Fault}
use Rattle.net_model.specs.declared.fault.Fault.TheVariants.{Free}
use Rattle.net_model.specs.Circuit.{Circuit}
use Rattle.net_model.specs.Answer.{bit_at, IsAnswer}
use Rattle.word_sim.specs.declared.lanes.TheConstants.{LANES}
use Rattle.word_sim.specs.GoodSim.{GoodSim, vectors_of}
use Rattle.fault_heads.specs.declared.head.Head.{Head}
use Rattle.fault_heads.specs.Turned.{vector_at, turned_if, IsFreeLane}

-- a circuit, and for each observed position a bit for each lane: whether the answers differ there
pub record FaultSim : Type 0 where
  pub circuit : Circuit
  pub differences : List (List Bool)

-- the bits of a position by lane
abbrev pub lanes_at : FaultSim → ℕ → List Bool
lanes_at sim position = slice_index_or sim.differences position []

-- The bit is true exactly if the fault's answer to the vector and the fault-free one differ at the position.
abbrev pub IsDifference : Circuit → Fault → List Bool → ℕ → Bool → Type 0
IsDifference c f v position bit = (answer free : List Bool) → IsAnswer c f v answer → IsAnswer c Free v free → IsTrue bit ↔ (bit_at answer position ≢ bit_at free position)

-- There is a row for each position. In the lane of a vector it is true exactly if the fault's answer and the fault-free
-- one differ at the position, and in all other lanes it is false.
pub record AreDifferences (c : Circuit) (f : Fault) (vectors rows : List (List Bool)) : Type 0 where
  pub whole : length rows ≡ length c.positions
  pub live : (position lane : ℕ) → position < length c.positions → lane < length vectors → IsDifference c f (slice_index_or vectors lane []) position (bit_at (slice_index_or rows position []) lane)
  pub past : (position lane : ℕ) → position < length c.positions → length vectors ≤ lane → lane < LANES → bit_at (slice_index_or rows position []) lane ≡ false

-- There is a row for each position. In the lane of a vector it is true exactly if `lanes` has the lane and the answer
-- with the head turned differs from the fault-free one at the position, and in all other lanes it is false.
pub record AreTurnedDifferences (good : GoodSim) (head : Head) (lanes : List Bool) (rows : List (List Bool)) : Type 0 where
  pub whole : length rows ≡ length good.circuit.positions
  pub live : (position lane : ℕ) (free : List Bool) → position < length good.circuit.positions → IsFreeLane good lane free
      → IsDifference good.circuit (turned_if good.circuit free head (bit_at lanes lane)) (vector_at good lane) position (bit_at (slice_index_or rows position []) lane)
  pub past : (position lane : ℕ) → position < length good.circuit.positions → length (vectors_of good) ≤ lane → lane < LANES → bit_at (slice_index_or rows position []) lane ≡ false

-- Some position differs in the lane.
abbrev pub IsSomeDifference : FaultSim → ℕ → Type 0
IsSomeDifference sim lane = (position : ℕ) × (position < length sim.circuit.positions) × IsTrue (bit_at (lanes_at sim position) lane)
