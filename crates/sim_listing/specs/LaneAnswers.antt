-- What the faults answer to the vector of a lane, by the answers of their roots.
use Rattle.std.specs.Prelude.{◌≡◌, ℕ, ◌<◌, ◌^◌, Bool, List, All, Option, None, Some, String, string_bytes, length, map, slice_index, slice_index_or}
use Rattle.std.specs.declared.alloc.Global.{Global}
use Rattle.net_model.specs.Answer.{AreEqual}
use Rattle.net_model.specs.BitText.{bits_text}
use Rattle.net_model.specs.Circuit.{Circuit, IsCircuit}
use Rattle.net_model.specs.FaultList.{fault_count, fault_numbered}
use Rattle.net_model.specs.PatternRows.{IsAnswerRow}
use Rattle.net_model.specs.Rows.{row_at}
use Rattle.dict_rows.specs.AnswerTable.{answer_in}
use Rattle.answer_numbers.specs.AnswerNumbers.{AnswerNumbers, numbered_vectors, vector_in, lead_fault}
use Rattle.answer_numbers.specs.Distinct.{distinct_answers}
use Rattle.sim_listing.specs.declared.lines.LaneAnswers.{LaneAnswers}

-- Each fault number has a place, and is equal to the root there, which is a fault number of the circuit.
pub record AreEqualRoots (c : Circuit) (roots places : List ℕ) : Type 0 where
  pub circuit : IsCircuit c
  pub known : All (λ root. root < fault_count c) roots
  pub one_each : length places ≡ fault_count c
  pub few_roots : length roots < 2 ^ 32
  pub few : length places < 2 ^ 32
  pub within : (number : ℕ) → number < length places → slice_index places number < length roots
  pub equal : (number : ℕ) → number < length places → AreEqual c (lead_fault c roots (slice_index places number)) (fault_numbered c number)

-- `AreEqualRoots` holds with the leads as roots, and the numbered vectors are as wide as the circuit has sources.
pub record HaveEqualLeads (n : AnswerNumbers) (places : List ℕ) : Type 0 where
  pub roots : AreEqualRoots n.circuit n.leads places
  pub widths : All (λ v. length v ≡ n.circuit.sources) (numbered_vectors n)

-- The lane is one of the block, and each number is equal to the lead at its place.
pub record IsKnownLane (l : LaneAnswers) : Type 0 where
  pub equal : HaveEqualLeads l.numbers.now l.places.now
  pub lane : l.lane < length (numbered_vectors l.numbers.now)

-- The row has the answer of each number to the lane's vector.
abbrev pub IsLaneRow : LaneAnswers → List (List Bool) → Type 0
IsLaneRow l row = IsAnswerRow l.numbers.now.circuit (vector_in l.numbers.now l.lane) row

-- the different answers to the lane's vector
abbrev pub lane_answers : LaneAnswers → List (List Bool) → List (List Bool)
lane_answers l row = distinct_answers (map (answer_in row) l.numbers.now.leads)

-- The answer is at `place` among the answers.
pub record IsAnswerPlace (answers : List (List Bool)) (answer : List Bool) (place : ℕ) : Type 0 where
  pub within : place < length answers
  pub own : row_at answers place ≡ answer

-- The place is that of what the number answers to the lane's vector.
abbrev pub IsNumberPlace : LaneAnswers → ℕ → ℕ → Type 0
IsNumberPlace l number place = (row : List (List Bool)) → IsLaneRow l row → IsAnswerPlace (lane_answers l row) (answer_in row number) place

-- There is room for a text of each answer, and each text that is there is that of the answer at its place.
pub record AreTextsOf (answers : List (List Bool)) (texts : List (Option (String Global))) : Type 0 where
  pub one_each : length texts ≡ length answers
  pub right : (place : ℕ) (text : String Global) → slice_index_or texts place None ≡ Some text → string_bytes text ≡ bits_text (row_at answers place)

-- `AreTextsOf` holds for the different answers to the lane's vector.
abbrev pub AreLaneTexts : LaneAnswers → List (Option (String Global)) → Type 0
AreLaneTexts l texts = (row : List (List Bool)) → IsLaneRow l row → AreTextsOf (lane_answers l row) texts
