-- The steps of a plan, and the branches that wait to be written.
use Rattle.std.specs.Prelude.{◌≡◌, ℕ, ◌+◌, ◌*◌, ◌-◌, ◌<◌, ◌≤◌, ◌^◌, List, [], ◌∷◌, ◌++◌, reverse, length, sum_by, ⊤}
use Rattle.std.specs.List.{AllByRecursion}
use Rattle.net_model.specs.ClassTable.{ClassTable}
use Rattle.dict_rows.specs.AnswerTable.{Answers}
use Rattle.adaptive_tree.specs.declared.steps.Step.{Step}
use Rattle.adaptive_tree.specs.declared.steps.Step.TheVariants.{On}
use Rattle.adaptive_planner.specs.declared.class_numbers.ClassNumbers.{ClassNumbers}
use Rattle.adaptive_planner.specs.declared.parting.Branch.{Branch}
use Rattle.adaptive_planner.specs.declared.planner.Planner.{Planner}
use Rattle.adaptive_tree.specs.PlanNode.{PlanNode, node_steps}
use Rattle.adaptive_planner.specs.Planned.{IsPlanned}
use Rattle.adaptive_planner.specs.Numbering.{ArePairTold, AreNumbersOfTable, numbered_bits}
use Rattle.adaptive_planner.specs.Parting.{classes_of}
use Rattle.adaptive_planner.specs.Counting.{AreCountsOf}

-- Any two classes of the set are told apart by some pattern.
abbrev pub AreSetTold : ClassNumbers → List ℕ → Type 0
AreSetTold c [] = ⊤
AreSetTold c (class ∷ set) = AllByRecursion (ArePairTold c class) set × AreSetTold c set

-- The set has at least one class and fewer than 2^32, all of them are known, and any two are told apart by some
-- pattern.
pub record IsToldSet (c : ClassNumbers) (set : List ℕ) : Type 0 where
  pub some : 0 < length set
  pub known : AllByRecursion (λ class. class < length c.own.items) set
  pub few : length set < 2 ^ 32
  pub told : AreSetTold c set

-- The pattern and the number of the branch are known, and `IsToldSet` holds for its classes.
pub record IsToldBranch (c : ClassNumbers) (b : Branch) : Type 0 where
  pub pattern : b.pattern < length c.firsts.items
  pub number : b.number < length c.patterns.items
  pub set : IsToldSet c (classes_of b)

-- the branches that wait, in the order of their steps
abbrev pub next_branches : Planner → List Branch
next_branches planner = reverse planner.waiting.items

-- The counts are those of no class, there is a slot for each number, and `IsToldBranch` holds for each waiting branch.
pub record IsPlanner (c : ClassNumbers) (planner : Planner) : Type 0 where
  pub counts : AreCountsOf c [] planner.counts
  pub slots : length planner.slots.items ≡ length c.patterns.items
  pub waiting : AllByRecursion (IsToldBranch c) (next_branches planner)

-- a bound for the number of nodes that the waiting branches can still give
abbrev pub nodes_left : Planner → ℕ
nodes_left planner = sum_by (λ b. 2 * length (classes_of b) - 1) (next_branches planner)

module _ (t : ClassTable) (table : Answers) (c : ClassNumbers) where
  -- The steps are those of these branches, one after another: the answer of each, and its node.
  abbrev pub AreBranchSteps : List Branch → List Step → Type 0
  AreBranchSteps [] steps = steps ≡ []
  AreBranchSteps (b ∷ bs) steps =
      (node : PlanNode) × (more : List Step) × IsPlanned t table (classes_of b) node × AreBranchSteps bs more × (steps ≡ On (numbered_bits c b.pattern b.number) ∷ (node_steps node ++ more))

  -- For all steps of the waiting branches, the steps so far followed by these are those of a node for the set.
  abbrev pub BeginNode : List ℕ → Planner → Type 0
  BeginNode set planner = (more : List Step) → AreBranchSteps (next_branches planner) more → (node : PlanNode) × IsPlanned t table set node × (planner.steps ++ more ≡ node_steps node)

  -- The steps are those of a node for the set.
  abbrev pub AreNodeSteps : List ℕ → List Step → Type 0
  AreNodeSteps set steps = (node : PlanNode) × IsPlanned t table set node × (steps ≡ node_steps node)

  -- For all steps of the branches that wait now, the new steps followed by these are the old steps, then those of a
  -- node for the set, then steps of the branches that waited before.
  abbrev pub HaveNode : List ℕ → Planner → Planner → Type 0
  HaveNode set old new =
      (more : List Step) → AreBranchSteps (next_branches new) more
      → (node : PlanNode) × (rest : List Step) × IsPlanned t table set node × AreBranchSteps (next_branches old) rest × (new.steps ++ more ≡ old.steps ++ (node_steps node ++ rest))

-- A node for the set was added, for each table whose answers have the numbers, and `nodes_left` grew by at most twice
-- the number of classes in the set, less 2.
pub record AddsNode (c : ClassNumbers) (set : List ℕ) (old new : Planner) : Type 0 where
  pub planner : IsPlanner c new
  pub less : nodes_left new + 2 ≤ nodes_left old + 2 * length set
  pub steps : (t : ClassTable) (table : Answers) → AreNumbersOfTable t table c → HaveNode t table c set old new

-- If the old steps begin a node for a set, the new steps are those of a node for it.
abbrev pub FinishesNode : ClassNumbers → Planner → Planner → Type 0
FinishesNode c old new = (t : ClassTable) (table : Answers) (set : List ℕ) → AreNumbersOfTable t table c → BeginNode t table c set old → AreNodeSteps t table c set new.steps
