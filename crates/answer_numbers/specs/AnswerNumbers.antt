-- What some fault numbers, the leads, answer to the vectors of a block, and the numbers of these answers in each lane.
use Rattle.std.specs.Prelude.{◌≡◌, ◌≢◌, ◌↔◌, ℕ, ◌<◌, Bool, List, [], length, Option, unwrap_or, slice_index, slice_index_or, IsTrue}
use Rattle.net_model.specs.declared.fault.Fault.{Fault}
use Rattle.net_model.specs.declared.fault.Fault.TheVariants.{Free}
use Rattle.net_model.specs.Circuit.{Circuit}
use Rattle.net_model.specs.FaultList.{fault_numbered}
use Rattle.net_model.specs.Answer.{IsAnswer}
use Rattle.net_model.specs.Rows.{row_at}
use Rattle.answer_numbers.specs.Distinct.{distinct_answers}

-- a circuit, the leads, and the vectors of the block that was numbered last, if one was
pub record AnswerNumbers : Type 0 where
  pub circuit : Circuit
  pub leads : List ℕ
  pub ran : Option (List (List Bool))

abbrev pub answer_numbers_with : Circuit → List ℕ → Option (List (List Bool)) → AnswerNumbers
answer_numbers_with circuit leads ran = record { circuit = circuit; leads = leads; ran = ran }

-- the vectors of the block that was numbered last; none if no block is numbered
abbrev pub numbered_vectors : AnswerNumbers → List (List Bool)
numbered_vectors n = unwrap_or n.ran []

-- the vector of a lane in the block that was numbered last
abbrev pub vector_in : AnswerNumbers → ℕ → List Bool
vector_in n lane = slice_index_or (numbered_vectors n) lane []

-- the fault of the lead at a place
abbrev pub lead_fault : Circuit → List ℕ → ℕ → Fault
lead_fault c leads place = fault_numbered c (slice_index leads place)

-- There is one answer for each lead: what the lead answers to the vector.
pub record AreLeadAnswers (c : Circuit) (leads : List ℕ) (v : List Bool) (answers : List (List Bool)) : Type 0 where
  pub one_each : length answers ≡ length leads
  pub each : (place : ℕ) → place < length leads → IsAnswer c (lead_fault c leads place) v (row_at answers place)

-- The number is the place of the answer at `place` among the distinct answers.
pub record IsDistinctPlace (answers : List (List Bool)) (place number : ℕ) : Type 0 where
  pub within : number < length (distinct_answers answers)
  pub own : row_at (distinct_answers answers) number ≡ row_at answers place

-- The number is the place of the answer of the lead at `place` among the distinct answers of all leads to the vector.
abbrev pub IsLeadNumber : Circuit → List ℕ → List Bool → ℕ → ℕ → Type 0
IsLeadNumber c leads v place number = (answers : List (List Bool)) → AreLeadAnswers c leads v answers → IsDistinctPlace answers place number

-- The count is how many different answers the leads give to the vector.
abbrev pub IsLeadCount : Circuit → List ℕ → List Bool → ℕ → Type 0
IsLeadCount c leads v count = (answers : List (List Bool)) → AreLeadAnswers c leads v answers → count ≡ length (distinct_answers answers)

-- The bit is true exactly if the lead at `place` doesn't give the fault-free answer to the vector.
abbrev pub DiffersFromFree : Circuit → List ℕ → List Bool → ℕ → Bool → Type 0
DiffersFromFree c leads v place bit = (answer free : List Bool) → IsAnswer c (lead_fault c leads place) v answer → IsAnswer c Free v free → IsTrue bit ↔ (answer ≢ free)

-- The number is the place of the answer of the lead at a place among the distinct answers of all leads to the vector of
-- the lane.
abbrev pub IsAnswerNumber : AnswerNumbers → ℕ → ℕ → ℕ → Type 0
IsAnswerNumber n lane = IsLeadNumber n.circuit n.leads (vector_in n lane)

-- The count is how many different answers the leads give to the vector of the lane.
abbrev pub IsAnswerCount : AnswerNumbers → ℕ → ℕ → Type 0
IsAnswerCount n lane = IsLeadCount n.circuit n.leads (vector_in n lane)

-- The bit is true exactly if the lead at a place doesn't give the fault-free answer to the vector of the lane.
abbrev pub IsLeadDifference : AnswerNumbers → ℕ → ℕ → Bool → Type 0
IsLeadDifference n lane = DiffersFromFree n.circuit n.leads (vector_in n lane)
