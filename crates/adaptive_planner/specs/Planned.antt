-- The plan for the classes of a table of answers: which pattern is asked of a set of classes, and how its answers split
-- the set. A set is the list of its classes, ascending.
use Rattle.std.specs.Prelude.{◌≡◌, ℕ, ◌+◌, ◌<◌, ◌≤◌, ◌↔◌, Bool, not, List, [], ◌∷◌, length, filter, count_by, ⊤}
use Rattle.std.specs.List.{range_with_len}
use Rattle.net_model.specs.ClassTable.{ClassTable, class_count, class_at, representative, same_bits}
use Rattle.dict_rows.specs.AnswerTable.{Answers, answer_to}
use Rattle.adaptive_tree.specs.declared.steps.Plan.{Plan}
use Rattle.adaptive_tree.specs.PlanNode.{PlanNode, Branches, leaf, ask, no_branch, branch, node_steps}

module _ (t : ClassTable) (table : Answers) where
  -- what a class answers to a pattern
  abbrev pub class_answer : ℕ → ℕ → List Bool
  class_answer pattern class = answer_to table pattern (representative t class)

  -- whether two classes give the same answer to a pattern
  abbrev pub answer_alike : ℕ → ℕ → ℕ → Bool
  answer_alike pattern one other = same_bits (class_answer pattern one) (class_answer pattern other)

  -- how many pairs of a set a pattern splits
  abbrev pub parted_pairs : ℕ → List ℕ → ℕ
  parted_pairs pattern [] = 0
  parted_pairs pattern (lowest ∷ classes) = count_by (λ other. not (answer_alike pattern lowest other)) classes + parted_pairs pattern classes

  -- The pattern splits most pairs of the set, and is the lowest that does.
  pub record PartsMost (classes : List ℕ) (pattern : ℕ) : Type 0 where
    pub within : pattern < length table.rows
    pub most : (other : ℕ) → other < length table.rows → parted_pairs other classes ≤ parted_pairs pattern classes
    pub lowest : (other : ℕ) → other < pattern → parted_pairs other classes < parted_pairs pattern classes

  -- the classes of a set that give the same answer to a pattern as a given class
  abbrev pub alike_with : ℕ → ℕ → List ℕ → List ℕ
  alike_with pattern class classes = filter (λ other. answer_alike pattern class other) classes

  -- the classes of a set that give another answer to a pattern than a given class
  abbrev pub unlike : ℕ → ℕ → List ℕ → List ℕ
  unlike pattern class classes = filter (λ other. not (answer_alike pattern class other)) classes

  abbrev mutual
    -- The node of a set of one class is that class. The node of any other set asks the pattern that splits most pairs.
    pub IsPlanned : List ℕ → PlanNode → Type 0
    IsPlanned classes (leaf class) = classes ≡ class ∷ []
    IsPlanned classes (ask pattern branches) = (1 < length classes) × PartsMost classes pattern × ArePlanned pattern classes branches

    -- The first branch has the answer of the set's lowest class, and the node of all classes of the set that give it.
    -- The other branches are those of the classes that don't.
    pub ArePlanned : ℕ → List ℕ → Branches → Type 0
    ArePlanned pattern [] no_branch = ⊤
    ArePlanned pattern [] (branch answer node others) = ⊥
    ArePlanned pattern (lowest ∷ classes) no_branch = ⊥
    ArePlanned pattern (lowest ∷ classes) (branch answer node others) =
        (answer ≡ class_answer pattern lowest) × IsPlanned (lowest ∷ alike_with pattern lowest classes) node × ArePlanned pattern (unlike pattern lowest classes) others

  -- The plan has the sizes of the table and the classes, and the steps of the node for all classes.
  pub record IsPlan (plan : Plan) : Type 0 where
    pub positions_are : plan.positions ≡ table.positions
    pub patterns_are : plan.patterns ≡ length table.rows
    pub classes_are : plan.classes ≡ class_count t
    pub node : PlanNode
    pub planned : IsPlanned (range_with_len 0 (class_count t)) node
    pub steps_are : plan.steps ≡ node_steps node

  -- The classes and the table have the same numbers, and two of these have the same answers in the table exactly if
  -- they are in the same class.
  pub record IsToldApart : Type 0 where
    pub numbers : length t.class_of ≡ table.numbers
    pub same : (m n : ℕ) → m < table.numbers → n < table.numbers → (class_at t m ≡ class_at t n) ↔ ((pattern : ℕ) → pattern < length table.rows → answer_to table pattern m ≡ answer_to table pattern n)
