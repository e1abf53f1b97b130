-- What is known on the way from the last pattern to the first.
use Rattle.std.specs.Prelude.{◌≡◌, ◌↔◌, ◌+◌, ◌<◌, ◌≤◌, ℕ, Bool, List, [], take, drop, reverse, length, map, All, slice_index, slice_index_or, slice_range}
use Rattle.net_model.specs.Circuit.{Circuit}
use Rattle.net_model.specs.FaultList.{fault_count}
use Rattle.net_model.specs.ClassTable.{ClassTable, class_table, class_at, class_count, representative}
use Rattle.net_model.specs.PatternRows.{AreAnswerRows}
use Rattle.answer_numbers.specs.AnswerNumbers.{AnswerNumbers, vector_in, AreLeadAnswers}
use Rattle.compact_tests.specs.declared.thinning.Thinning.{Thinning}
use Rattle.compact_tests.specs.Remaining.{Answered, answered_vectors, answered_rows, classes_by, remaining_behind, remaining}
use Rattle.class_refine.specs.Fields.{IsWhole}
use Rattle.compact_tests.specs.Earlier.{NoneIsMarked}
use Rattle.compact_tests.specs.Sharing.{shared_groups}

-- The patterns have these answers, and the table is that of the answers.
pub record IsAnswered (c : Circuit) (patterns : List (List Bool)) (t : ClassTable) (all : List Answered) : Type 0 where
  pub vectors : answered_vectors all ≡ patterns
  pub answers : AreAnswerRows c patterns (answered_rows all)
  pub table : t ≡ class_table (fault_count c) (answered_rows all)

-- Each pattern has a bit for each source, and the table is that of the answers to the patterns.
pub record AreAnswersOf (c : Circuit) (patterns : List (List Bool)) (t : ClassTable) : Type 0 where
  pub widths : All (λ v. length v ≡ c.sources) patterns
  pub all : List Answered
  pub answered : IsAnswered c patterns t all

-- Two numbers answer alike to the patterns with these rows of answers.
abbrev pub HaveSameAnswers : List (List (List Bool)) → ℕ → ℕ → Type 0
HaveSameAnswers rows m n = All (λ row. slice_index_or row m [] ≡ slice_index_or row n []) rows

-- The patterns at these places.
abbrev pub patterns_at : List Answered → List ℕ → List Answered
patterns_at all places = map (λ place. slice_index_or all place ([], [])) places

-- The patterns at these places are those that remain.
pub record AreRemainingPlaces (c : Circuit) (patterns : List (List Bool)) (t : ClassTable) (places : List ℕ) : Type 0 where
  pub within : All (λ place. place < length patterns) places
  pub remain : (all : List Answered) → IsAnswered c patterns t all → patterns_at all places ≡ remaining (fault_count c) all

-- What remains of the patterns from a place to the end.
abbrev pub remaining_from : ℕ → List Answered → ℕ → List Answered
remaining_from numbers all place = remaining_behind numbers (classes_by numbers all) (take place all) (drop place all)

-- The classes are those of the table, which has at least one. There is an earlier class and a mark for each class, and
-- the earlier classes are classes of the table. The groups are groups of the classes, and those of two or more are
-- listed. No mark is set.
pub record IsThinning (t : ClassTable) (thinning : Thinning) : Type 0 where
  pub classes : thinning.classes.now ≡ t
  pub some : 0 < class_count t
  pub earlier : length thinning.earlier.items ≡ class_count t
  pub within : All (λ class. class < class_count t) thinning.earlier.items
  pub groups : length thinning.groups.class_of ≡ class_count t
  pub whole : IsWhole thinning.groups
  pub shared : thinning.shared.items ≡ shared_groups thinning.groups
  pub marks : length thinning.marks.items ≡ class_count t
  pub unmarked : NoneIsMarked thinning.marks.items

-- The patterns starting at `place` were looked at, for `numbers` numbers. The needed places are places of patterns, and
-- the patterns there, in order, are those that remain of the patterns that were looked at.
pub record IsThinnedTo (numbers : ℕ) (t : ClassTable) (all : List Answered) (place : ℕ) (thinning : Thinning) : Type 0 where
  -- The earlier classes are those of the patterns before `place`.
  pub earlier : (class : ℕ) → class < class_count t → slice_index thinning.earlier.items class ≡ class_at (class_table numbers (answered_rows (take place all))) (representative t class)
  -- Two classes are in one group exactly if they answer alike to the patterns that remain of those looked at.
  pub groups : (a b : ℕ) → a < class_count t → b < class_count t → class_at thinning.groups a ≡ class_at thinning.groups b ↔ HaveSameAnswers (answered_rows (remaining_from numbers all place)) (representative t a) (representative t b)
  pub places : All (λ place. place < length all) thinning.needed.items
  pub needed : patterns_at all (reverse thinning.needed.items) ≡ remaining_from numbers all place

-- There is at least one number, and the table is that of `numbers` numbers and of all patterns.
pub record IsTableOfAll (numbers : ℕ) (t : ClassTable) (all : List Answered) : Type 0 where
  pub some : 0 < numbers
  pub is : t ≡ class_table numbers (answered_rows all)

-- The leads answer to the vector of a lane as the lowest numbers of the listed classes do in the pattern's row.
pub record IsNumbered (n : AnswerNumbers) (lane : ℕ) (listed : List ℕ) (t : ClassTable) (all : List Answered) (pattern : ℕ) : Type 0 where
  pub within : pattern < length all
  pub answers : List (List Bool)
  pub are : AreLeadAnswers n.circuit n.leads (vector_in n lane) answers
  pub own : (place : ℕ) → place < length listed → slice_index_or answers place [] ≡ slice_index_or (slice_index_or all pattern ([], [])).1 (representative t (slice_index listed place)) []

-- The leads answer to the vector of each of the first `count` lanes as `IsNumbered` says, for the patterns starting at
-- `first`.
abbrev pub AreLanesNumbered : AnswerNumbers → List ℕ → ClassTable → List Answered → ℕ → ℕ → Type 0
AreLanesNumbered n listed t all first count = (lane : ℕ) → lane < count → IsNumbered n lane listed t all (first + lane)

-- The vectors are the patterns starting at `first`.
pub record IsBlockOf (patterns : List (List Bool)) (first : ℕ) (vectors : List (List Bool)) : Type 0 where
  pub within : first + length vectors ≤ length patterns
  pub are : vectors ≡ slice_range patterns first (first + length vectors)
