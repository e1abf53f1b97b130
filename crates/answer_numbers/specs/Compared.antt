-- What leads answer, compared with the fault-free answers, and numbered.
use Rattle.std.specs.Prelude.{◌≡◌, ℕ, ◌*◌, ◌<◌, ◌≤◌, ◌^◌, Bool, false, List, [], length, All, None, slice_index, slice_index_or}
use Rattle.net_model.specs.declared.fault.Fault.{Fault}
use Rattle.net_model.specs.Circuit.{Circuit}
use Rattle.net_model.specs.FaultList.{faults as faults_of, fault_count}
use Rattle.net_model.specs.Answer.{bit_at}
use Rattle.fault_sim.specs.FaultSim.{IsDifference}
use Rattle.word_sim.specs.declared.lanes.TheConstants.{LANES}
use Rattle.answer_numbers.specs.declared.numbers.Compared.{Compared}
use Rattle.answer_numbers.specs.declared.numbers.Numbered.{Numbered}
use Rattle.answer_numbers.specs.AnswerNumbers.{lead_fault, IsLeadNumber, IsLeadCount, DiffersFromFree}
use Rattle.answer_numbers.specs.Differences.{AreLists, end_count, found_at, differs_at}
use Rattle.answer_numbers.specs.Growing.{passing_below}
use Rattle.answer_numbers.specs.NodeNumbers.{stand_of}
use Rattle.answer_numbers.specs.Trees.{AreTrees, way_of}

-- The list is that of the circuit's faults, the leads are fault numbers of it, and there are fewer than 2^32 leads.
pub record AreKnownLeads (c : Circuit) (faults : List Fault) (leads : List ℕ) : Type 0 where
  pub faults_are : faults ≡ faults_of c
  pub known : All (λ lead. lead < fault_count c) leads
  pub few : length leads < 2 ^ 32

-- The bit is true exactly if the answer of the lead at `place` to the vector differs from the fault-free one at the
-- position.
abbrev pub DiffersAtPosition : Circuit → List ℕ → List Bool → ℕ → ℕ → Bool → Type 0
DiffersAtPosition c leads v place = IsDifference c (lead_fault c leads place) v

-- There is a row for each of the first `done` places. In the lane of a vector it is true exactly if the answer of the
-- place differs from the fault-free one, and in all other lanes it is false.
pub record AreDiffering (c : Circuit) (leads : List ℕ) (vectors : List (List Bool)) (done : ℕ) (rows : List (List Bool)) : Type 0 where
  pub one_each : length rows ≡ done
  pub live : (place lane : ℕ) → place < done → lane < length vectors → DiffersFromFree c leads (slice_index_or vectors lane []) place (bit_at (slice_index_or rows place []) lane)
  pub past : (place lane : ℕ) → place < done → length vectors ≤ lane → lane < LANES → bit_at (slice_index_or rows place []) lane ≡ false

-- The first `done` places, and no others, are compared with the fault-free answers to the vectors: a row for each says
-- in which lanes it differs, and the list of each position has the places that differ there and in which lanes.
pub record AreCompared (c : Circuit) (leads : List ℕ) (vectors : List (List Bool)) (done : ℕ) (compared : Compared) : Type 0 where
  pub count : end_count compared.lists ≡ length c.positions
  pub lists : AreLists compared.lists
  pub differing : AreDiffering c leads vectors done compared.differing.items
  pub few : (position place : ℕ) → position < length c.positions → done ≤ place → found_at compared.lists position place ≡ None
  pub live : (place position lane : ℕ) → place < done → position < length c.positions → lane < length vectors → DiffersAtPosition c leads (slice_index_or vectors lane []) place position (differs_at compared.lists place position lane)
  pub past : (place position lane : ℕ) → place < done → position < length c.positions → length vectors ≤ lane → lane < LANES → differs_at compared.lists place position lane ≡ false

-- The way up from the node of the place in the lane has the positions at which the place's answer to the lane's vector
-- differs from the fault-free one, each once.
pub record HasOwnWay (c : Circuit) (leads : List ℕ) (vectors : List (List Bool)) (n : Numbered) (place lane : ℕ) : Type 0 where
  pub differs : ℕ → Bool
  pub way : (way_of n.trees.lanes n.trees.nodes.items (stand_of n.trees place lane)).positions ≡ passing_below differs (length c.positions)
  pub right : (position : ℕ) → position < length c.positions → DiffersAtPosition c leads (slice_index_or vectors lane []) place position (differs position)

-- There is a tree for the lane of each vector, with the way of each lead's answer. The nodes have the numbers of the
-- answers, each lane has the count of its different answers, and a row for each lead says in which lanes it differs.
pub record AreLeadNumbers (c : Circuit) (leads : List ℕ) (vectors : List (List Bool)) (n : Numbered) : Type 0 where
  pub few : length vectors ≤ LANES
  pub lanes : n.trees.lanes ≡ length vectors
  pub cells : length n.trees.stands.items ≡ length leads * length vectors
  pub trees : AreTrees (length c.positions) n.trees
  pub nodes : length n.numbers.numbers.items ≡ length n.trees.nodes.items
  pub counts : length n.numbers.counts.items ≡ length vectors
  pub differing : AreDiffering c leads vectors (length leads) n.differing.items
  pub number : (lane place : ℕ) → lane < length vectors → place < length leads → IsLeadNumber c leads (slice_index_or vectors lane []) place (slice_index n.numbers.numbers.items (stand_of n.trees place lane))
  pub count : (lane : ℕ) → lane < length vectors → IsLeadCount c leads (slice_index_or vectors lane []) (slice_index n.numbers.counts.items lane)
  pub way : (lane place : ℕ) → lane < length vectors → place < length leads → HasOwnWay c leads vectors n place lane
