-- What classes answer, by numbers.
use Rattle.std.specs.Prelude.{◌≡◌, ◌≢◌, ℕ, ◌+◌, ◌<◌, ◌≤◌, ◌^◌, ◌==◌, Bool, List, [], ◌∷◌, ◌++◌, replicate, take, length, find, None, unwrap_or, slice_index, slice_index_or, if◌then◌else◌}
use Rattle.net_model.specs.ClassTable.{ClassTable, class_count}
use Rattle.dict_rows.specs.AnswerTable.{Answers, answer_to}
use Rattle.adaptive_planner.specs.Planned.{class_answer}
use Rattle.adaptive_planner.specs.declared.class_numbers.ClassNumbers.{ClassNumbers}

-- the first number of a list whose pattern is this one, or 0 if there is none
abbrev pub number_for : List ℕ → ℕ → List ℕ → ℕ
number_for patterns pattern numbers = unwrap_or (find (λ n. slice_index patterns n == pattern) numbers) 0

abbrev pub own_numbers : ClassNumbers → ℕ → List ℕ
own_numbers c class = slice_index_or c.own.items class []

-- the number of what a class answers to a pattern
abbrev pub class_number : ClassNumbers → ℕ → ℕ → ℕ
class_number c pattern class = number_for c.patterns.items pattern (own_numbers c class)

-- the answer to a pattern that has this number
abbrev pub numbered_bits : ClassNumbers → ℕ → ℕ → List Bool
numbered_bits c pattern number = slice_index_or c.answers.items (if number == 0 then slice_index c.firsts.items pattern else number) []

-- The numbers are known, and none is 0, that of class 0. Their patterns are below `limit`, and no two have the same
-- one.
pub record AreOwnNumbers (patterns : List ℕ) (limit : ℕ) (numbers : List ℕ) : Type 0 where
  pub some : (k : ℕ) → k < length numbers → 0 < slice_index numbers k
  pub known : (k : ℕ) → k < length numbers → slice_index numbers k < length patterns
  pub within : (k : ℕ) → k < length numbers → slice_index patterns (slice_index numbers k) < limit
  pub once : (k : ℕ) → k < length numbers → find (λ n. slice_index patterns n == slice_index patterns (slice_index numbers k)) (take k numbers) ≡ None

-- What holds of all numbers of classes: each answer has a pattern, each pattern has the place of class 0's answer, the
-- own numbers of each class are right, and 32 bits number the patterns, the classes and the answers.
pub record AreClassNumbers (c : ClassNumbers) : Type 0 where
  pub some : 0 < length c.patterns.items
  pub answers : length c.answers.items ≡ length c.patterns.items
  pub firsts : (pattern : ℕ) → pattern < length c.firsts.items → slice_index c.firsts.items pattern < length c.answers.items
  pub few_patterns : length c.firsts.items < 2 ^ 32
  pub few_numbers : length c.patterns.items < 2 ^ 32
  pub few_classes : length c.own.items < 2 ^ 32
  pub own : (class : ℕ) → class < length c.own.items → AreOwnNumbers c.patterns.items (length c.firsts.items) (own_numbers c class)

-- Some pattern tells the two classes apart, by their numbers.
pub record ArePairTold (c : ClassNumbers) (one other : ℕ) : Type 0 where
  pub pattern : ℕ
  pub within : pattern < length c.firsts.items
  pub differ : class_number c pattern one ≢ class_number c pattern other

-- There is a class, and any two different classes are told apart by some pattern.
pub record AreAllTold (c : ClassNumbers) : Type 0 where
  pub class : 0 < length c.own.items
  pub apart : (one other : ℕ) → one < length c.own.items → other < length c.own.items → one ≢ other → ArePairTold c one other

-- The numbers are those of what `classes_are` classes answer to `pattern_count` patterns: at each pattern a class's
-- number has its answer, and two classes have the same number exactly if they have the same answer.
pub record AreNumbersTo (answer : ℕ → ℕ → List Bool) (pattern_count classes_are : ℕ) (c : ClassNumbers) : Type 0 where
  pub patterns : length c.firsts.items ≡ pattern_count
  pub classes : length c.own.items ≡ classes_are
  pub bits : (pattern class : ℕ) → pattern < pattern_count → class < classes_are → numbered_bits c pattern (class_number c pattern class) ≡ answer pattern class
  pub same : (pattern one other : ℕ) → pattern < pattern_count → one < classes_are → other < classes_are → answer pattern one ≡ answer pattern other → class_number c pattern one ≡ class_number c pattern other

-- The numbers are those of what the classes answer to the patterns of a table.
abbrev pub AreNumbersOfTable : ClassTable → Answers → ClassNumbers → Type 0
AreNumbersOfTable t table c = AreNumbersTo (class_answer t table) (length table.rows) (class_count t) c

-- `numbers` has for each of `classes_are` classes the place among `answers` of what it answers, and equal answers have
-- the same place.
pub record AreRowNumbers (answer : ℕ → List Bool) (classes_are : ℕ) (numbers : List ℕ) (answers : List (List Bool)) : Type 0 where
  pub one_each : length numbers ≡ classes_are
  pub within : (class : ℕ) → class < classes_are → slice_index numbers class < length answers
  pub own : (class : ℕ) → class < classes_are → slice_index_or answers (slice_index numbers class) [] ≡ answer class
  pub same : (one other : ℕ) → one < classes_are → other < classes_are → answer one ≡ answer other → slice_index numbers one ≡ slice_index numbers other

-- the own numbers of a class, with `base` plus its number added at the end if that number isn't 0
abbrev pub own_after : ℕ → ℕ → List ℕ → List ℕ
own_after base number own = if number == 0 then own else own ++ (base + number) ∷ []

-- The first `done` classes have these numbers added, counted from `base`, and the other classes are as before.
pub record HaveMore (base done : ℕ) (numbers : List ℕ) (old new : List (List ℕ)) : Type 0 where
  pub count : length new ≡ length old
  pub more : (class : ℕ) → class < done → slice_index_or new class [] ≡ own_after base (slice_index numbers class) (slice_index_or old class [])
  pub others : (class : ℕ) → done ≤ class → slice_index_or new class [] ≡ slice_index_or old class []

-- One more pattern is there with its answers, and with the numbers of what the classes answer to it.
pub record HasPattern (numbers : List ℕ) (added : List (List Bool)) (old new : ClassNumbers) : Type 0 where
  pub firsts : new.firsts.items ≡ old.firsts.items ++ length old.patterns.items ∷ []
  pub patterns : new.patterns.items ≡ old.patterns.items ++ replicate (length added) (length old.firsts.items)
  pub answers : new.answers.items ≡ old.answers.items ++ added
  pub own : HaveMore (length old.patterns.items) (length numbers) numbers old.own.items new.own.items

-- The new numbers have one more pattern, with what the classes answer to it.
pub record AddsPattern (numbers : List ℕ) (answers : List (List Bool)) (old new : ClassNumbers) : Type 0 where
  pub are : AreClassNumbers new
  pub count : length new.firsts.items ≡ length old.firsts.items + 1
  pub classes : length new.own.items ≡ length old.own.items
  pub to : (answer : ℕ → ℕ → List Bool) (classes_are : ℕ) → AreNumbersTo answer (length old.firsts.items) classes_are old → AreRowNumbers (answer (length old.firsts.items)) classes_are numbers answers → AreNumbersTo answer (length old.firsts.items + 1) classes_are new

-- what a lead answers to a pattern of a table
abbrev pub lead_answer : Answers → List ℕ → ℕ → ℕ → List Bool
lead_answer table leads pattern class = answer_to table pattern (slice_index leads class)
