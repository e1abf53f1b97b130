-- The answers of the classes, by their numbers among the candidates.
use Rattle.std.specs.Prelude.{◌≡◌, ℕ, ◌+◌, ◌<◌, ◌≤◌, Bool, List, [], map, length, slice_index, slice_index_or}
use Rattle.std.specs.List.{range_with_len}
use Rattle.net_model.specs.Circuit.{Circuit}
use Rattle.net_model.specs.ClassTable.{ClassTable, class_count, class_at, representative, same_bits}
use Rattle.dict_rows.specs.AnswerTable.{Answers, answer_in, answer_to}
use Rattle.net_model.specs.Rows.{row_at}
use Rattle.dict_rows.specs.Grouped.{AreDifferent}
use Rattle.answer_numbers.specs.AnswerNumbers.{AnswerNumbers, vector_in, IsLeadNumber, IsLeadCount}
use Rattle.samediff_dict.specs.declared.numbering.Candidates.{Candidates}
use Rattle.answer_numbers.specs.Distinct.{distinct_answers}
use Rattle.samediff_dict.specs.Chosen.{candidates}

-- The classes are of the table's numbers, and members of one class have the same answer to each pattern.
pub record AnswerAlike (t : ClassTable) (table : Answers) : Type 0 where
  pub numbers : length t.class_of ≡ table.numbers
  pub each : (pattern m n : ℕ) → pattern < length table.rows → m < table.numbers → n < table.numbers → class_at t m ≡ class_at t n → answer_to table pattern m ≡ answer_to table pattern n

-- what the classes answer, class by class
abbrev pub class_answers : ClassTable → List (List Bool) → List (List Bool)
class_answers t row = map (λ class. answer_in row (representative t class)) (range_with_len 0 (class_count t))

-- `c` has for each answer its number among the distinct answers, which all differ, and counts these.
pub record AreNumbersOf (answers : List (List Bool)) (c : Candidates) : Type 0 where
  pub count_is : c.count ≡ length (distinct_answers answers)
  pub different : AreDifferent (distinct_answers answers)
  pub one_each : length c.numbers ≡ length answers
  pub within : (place : ℕ) → place < length answers → slice_index c.numbers place < length (distinct_answers answers)
  pub own : (place : ℕ) → place < length answers → row_at (distinct_answers answers) (slice_index c.numbers place) ≡ row_at answers place

-- After the old candidates there are those of each pattern of the table, by the answers of `leads`.
pub record AreAdded (t : Answers) (leads : List ℕ) (old new : List Candidates) : Type 0 where
  pub count : length new ≡ length old + length t.rows
  pub before : (k : ℕ) (d : Candidates) → k < length old → slice_index_or new k d ≡ slice_index_or old k d
  pub added : (pattern : ℕ) (d : Candidates) → pattern < length t.rows → AreNumbersOf (map (answer_to t pattern) leads) (slice_index_or new (length old + pattern) d)

-- The candidates are the numbers of what the leads answer to a vector, with the count of the different ones.
pub record AreLeadCandidates (c : Circuit) (leads : List ℕ) (v : List Bool) (found : Candidates) : Type 0 where
  pub count_is : IsLeadCount c leads v found.count
  pub one_each : length found.numbers ≡ length leads
  pub each : (place : ℕ) → place < length leads → IsLeadNumber c leads v place (slice_index found.numbers place)

-- After the old candidates there are those of the vectors in the first `lanes` lanes.
pub record AreLanesAdded (n : AnswerNumbers) (lanes : ℕ) (old new : List Candidates) : Type 0 where
  pub count : length new ≡ length old + lanes
  pub before : (k : ℕ) (d : Candidates) → k < length old → slice_index_or new k d ≡ slice_index_or old k d
  pub added : (lane : ℕ) (d : Candidates) → lane < lanes → AreLeadCandidates n.circuit n.leads (vector_in n lane) (slice_index_or new (length old + lane) d)

-- There are the candidates of the first `done` patterns, by the numbers of what the leads answer.
pub record AreFoundTo (c : Circuit) (leads : List ℕ) (vectors : List (List Bool)) (done : ℕ) (patterns : List Candidates) : Type 0 where
  pub count : length patterns ≡ done
  pub each : (pattern : ℕ) (d : Candidates) → pattern < done → AreLeadCandidates c leads (slice_index_or vectors pattern []) (slice_index_or patterns pattern d)

-- `c` has the count of the pattern's candidates, which all differ, and for each class the number of the one that it
-- answers.
pub record AreCandidates (t : ClassTable) (row : List (List Bool)) (c : Candidates) : Type 0 where
  pub count_is : c.count ≡ length (candidates t row)
  pub different : AreDifferent (candidates t row)
  pub one_each : length c.numbers ≡ class_count t
  pub within : (class : ℕ) → class < class_count t → slice_index c.numbers class < length (candidates t row)
  pub own : (class : ℕ) → class < class_count t → row_at (candidates t row) (slice_index c.numbers class) ≡ answer_in row (representative t class)

-- There are the candidates of each pattern.
pub record HaveCandidates (t : ClassTable) (rows : List (List (List Bool))) (patterns : List Candidates) : Type 0 where
  pub count : length patterns ≡ length rows
  pub each : (pattern : ℕ) (d : Candidates) → pattern < length rows → AreCandidates t (slice_index_or rows pattern []) (slice_index_or patterns pattern d)

-- the baselines that have the numbers `chosen` among the candidates
abbrev pub baselines_at : ClassTable → List (List (List Bool)) → List ℕ → List (List Bool)
baselines_at t rows chosen = map (λ pattern. row_at (candidates t (slice_index_or rows pattern [])) (slice_index chosen pattern)) (range_with_len 0 (length chosen))

-- Each number is that of a candidate of its pattern.
abbrev pub AreChosen : ClassTable → List (List (List Bool)) → List ℕ → Type 0
AreChosen t rows chosen = (pattern : ℕ) → pattern < length chosen → slice_index chosen pattern < length (candidates t (slice_index_or rows pattern []))

-- There is the number of a candidate for each pattern, and these are the baselines.
pub record HasBaselines (t : ClassTable) (rows : List (List (List Bool))) (chosen : List ℕ) (baselines : List (List Bool)) : Type 0 where
  pub one_each : length chosen ≡ length rows
  pub chosen_are : AreChosen t rows chosen
  pub baselines_are : baselines_at t rows chosen ≡ baselines

-- whether a class answers the baseline of a pattern
abbrev pub answers_base : ClassTable → List (List (List Bool)) → List (List Bool) → ℕ → ℕ → Bool
answers_base t rows baselines pattern class = same_bits (answer_in (slice_index_or rows pattern []) (representative t class)) (slice_index_or baselines pattern [])

-- For each baseline in a range of patterns, both classes answer it or neither does.
abbrev pub AlikeFrom : ClassTable → List (List (List Bool)) → List (List Bool) → ℕ → ℕ → ℕ → ℕ → Type 0
AlikeFrom t rows baselines first end low high = (pattern : ℕ) → first ≤ pattern → pattern < end → answers_base t rows baselines pattern low ≡ answers_base t rows baselines pattern high
