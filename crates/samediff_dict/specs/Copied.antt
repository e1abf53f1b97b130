-- The chosen answers by their numbers, and the entries of the classes against them.
use Rattle.std.specs.Prelude.{◌≡◌, ℕ, ◌+◌, ◌<◌, ◌==◌, Bool, not, List, length, map, zip, slice_index, slice_index_or, Contains}
use Rattle.std.specs.List.{range_with_len}
use Rattle.net_model.specs.ClassTable.{ClassTable, class_count, representative}
use Rattle.dict_rows.specs.AnswerTable.{Answers, answer_to}
use Rattle.samediff_dict.specs.declared.numbering.Candidates.{Candidates}

-- There is a number for each of `classes` classes, and one of them has `number`.
pub record HasClass (classes : ℕ) (c : Candidates) (number : ℕ) : Type 0 where
  pub one_each : length c.numbers ≡ classes
  pub some : Contains c.numbers number

-- `HasClass` holds at each pattern for the number that is chosen there.
pub record HaveClasses (classes : ℕ) (patterns : List Candidates) (chosen : List ℕ) : Type 0 where
  pub count : length patterns ≡ length chosen
  pub each : (pattern : ℕ) (d : Candidates) → pattern < length chosen → HasClass classes (slice_index_or patterns pattern d) (slice_index chosen pattern)

-- `lead` is the lowest number of a class that has `number` among the candidates.
pub record IsLead (t : ClassTable) (c : Candidates) (number lead : ℕ) : Type 0 where
  pub class : ℕ
  pub known : class < class_count t
  pub own : slice_index c.numbers class ≡ number
  pub lead_is : lead ≡ representative t class
  pub within : lead < length t.class_of

-- There are `count` leads, one for each of the first patterns by the number that is chosen there.
pub record AreLeads (t : ClassTable) (patterns : List Candidates) (chosen : List ℕ) (count : ℕ) (leads : List ℕ) : Type 0 where
  pub one_each : length leads ≡ count
  pub each : (pattern : ℕ) (d : Candidates) → pattern < count → IsLead t (slice_index_or patterns pattern d) (slice_index chosen pattern) (slice_index leads pattern)

-- For each pattern of the table, `wanted` of `first` plus the pattern is what the pattern's number of `numbers` answers
-- to it.
pub record AreWanted (t : Answers) (numbers : List ℕ) (first : ℕ) (wanted : ℕ → List Bool) : Type 0 where
  pub own : (pattern : ℕ) → pattern < length t.rows → answer_to t pattern (slice_index numbers pattern) ≡ wanted (first + pattern)

-- The class has a number at each pattern, and each pattern has a chosen number.
pub record HasNumbers (class : ℕ) (patterns : List Candidates) (chosen : List ℕ) : Type 0 where
  pub count : length patterns ≡ length chosen
  pub each : (pattern : ℕ) (d : Candidates) → pattern < length chosen → class < length (slice_index_or patterns pattern d).numbers

-- the entry of a class: for each pattern, whether the class has another number than the chosen one
abbrev pub class_entry : List Candidates → List ℕ → ℕ → List Bool
class_entry patterns chosen class = map (λ x. not (slice_index x.0.numbers class == x.1)) (zip patterns chosen)

-- The rows are the entries of the first `classes` classes.
abbrev pub AreEntries : ℕ → List Candidates → List ℕ → List (List Bool) → Type 0
AreEntries classes patterns chosen entries = entries ≡ map (class_entry patterns chosen) (range_with_len 0 classes)
