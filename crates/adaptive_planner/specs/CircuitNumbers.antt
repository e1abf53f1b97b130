-- Numbers of what leads answer to the vectors of a block.
use Rattle.std.specs.Prelude.{◌≡◌, ℕ, ◌+◌, ◌<◌, Bool, List, [], take, map, length, slice_index, slice_index_or}
use Rattle.std.specs.List.{range_with_len}
use Rattle.net_model.specs.Circuit.{Circuit}
use Rattle.net_model.specs.Answer.{IsAnswer}
use Rattle.answer_numbers.specs.AnswerNumbers.{AnswerNumbers, vector_in, lead_fault, IsDistinctPlace}
use Rattle.answer_numbers.specs.Distinct.{distinct_answers}
use Rattle.adaptive_planner.specs.declared.class_numbers.ClassNumbers.{ClassNumbers}
use Rattle.adaptive_planner.specs.declared.circuit_numbers.LaneNumbers.{LaneNumbers}
use Rattle.adaptive_planner.specs.Numbering.{AreClassNumbers, AreNumbersTo}

-- `answer` is for each place what the lead there answers to a vector.
abbrev pub AnswerSo : Circuit → List ℕ → List Bool → (ℕ → List Bool) → Type 0
AnswerSo c leads v answer = (place : ℕ) → place < length leads → IsAnswer c (lead_fault c leads place) v (answer place)

-- `answer` is for each place what the lead there answers to the vector of a lane.
abbrev pub AnswerLaneSo : AnswerNumbers → ℕ → (ℕ → List Bool) → Type 0
AnswerLaneSo n lane answer = AnswerSo n.circuit n.leads (vector_in n lane) answer

-- the first `count` answers, as a list
abbrev pub answer_list : ℕ → (ℕ → List Bool) → List (List Bool)
answer_list count answer = map answer (range_with_len 0 count)

-- `answers` are the distinct answers of the first `done` places, and `numbers` has the number of each of these places.
pub record AreFirstPlaces (all : List (List Bool)) (done : ℕ) (numbers : List ℕ) (answers : List (List Bool)) : Type 0 where
  pub distinct : answers ≡ distinct_answers (take done all)
  pub each : (place : ℕ) → place < done → IsDistinctPlace all place (slice_index numbers place)

-- The answers at the first `done` places of a lane are numbered.
pub record AreLaneNumbers (n : AnswerNumbers) (lane done : ℕ) (found : LaneNumbers) : Type 0 where
  pub count : length found.numbers.items ≡ done
  pub places : (answer : ℕ → List Bool) → AnswerLaneSo n lane answer → AreFirstPlaces (answer_list (length n.leads) answer) done found.numbers.items found.answers.items

-- The new numbers have one more pattern, the vector of the lane, with what the leads answer to it.
pub record AddsLane (n : AnswerNumbers) (lane : ℕ) (old new : ClassNumbers) : Type 0 where
  pub are : AreClassNumbers new
  pub count : length new.firsts.items ≡ length old.firsts.items + 1
  pub classes : length new.own.items ≡ length old.own.items
  pub to : (answer : ℕ → ℕ → List Bool) → AnswerLaneSo n lane (answer (length old.firsts.items)) → AreNumbersTo answer (length old.firsts.items) (length n.leads) old → AreNumbersTo answer (length old.firsts.items + 1) (length n.leads) new

-- The new numbers have `lanes` more patterns, the vectors of the first lanes, with what the leads answer to them.
pub record AddsLanes (n : AnswerNumbers) (lanes : ℕ) (old new : ClassNumbers) : Type 0 where
  pub are : AreClassNumbers new
  pub count : length new.firsts.items ≡ length old.firsts.items + lanes
  pub classes : length new.own.items ≡ length old.own.items
  pub to : (answer : ℕ → ℕ → List Bool) → ((lane : ℕ) → lane < lanes → AnswerLaneSo n lane (answer (length old.firsts.items + lane))) → AreNumbersTo answer (length old.firsts.items) (length n.leads) old
      → AreNumbersTo answer (length old.firsts.items + lanes) (length n.leads) new

-- The numbers are those of what the leads answer to the first `done` patterns.
pub record AreLeadsNumbered (c : Circuit) (patterns : List (List Bool)) (leads : List ℕ) (done : ℕ) (numbers : ClassNumbers) : Type 0 where
  pub are : AreClassNumbers numbers
  pub count : length numbers.firsts.items ≡ done
  pub classes : length numbers.own.items ≡ length leads
  pub to : (answer : ℕ → ℕ → List Bool) → ((pattern : ℕ) → pattern < done → AnswerSo c leads (slice_index_or patterns pattern []) (answer pattern)) → AreNumbersTo answer done (length leads) numbers
