-- How far the steps of a plan have come: the asks above a place, and whether a node or a branch is next.
use Rattle.std.specs.Prelude.{ℕ, ◌<◌, Bool, List, [], ◌∷◌, ◌++◌, length, ⊤}
use Rattle.std.specs.List.{list_any}
use Rattle.net_model.specs.ClassTable.{same_bits}
use Rattle.adaptive_tree.specs.declared.steps.Step.{Step}
use Rattle.adaptive_tree.specs.declared.steps.Step.TheVariants.{Ask, On, Class}
use Rattle.adaptive_tree.specs.PlanNode.{PlanNode, Branches, branch_answers, node_steps, branch_steps}

-- ---- steps so far

-- an ask above a place: its pattern, the number of its branches, those that are whole, and the answer of the one that
-- contains the place
pub record AskAbove : Type 0 where
  pub pattern : ℕ
  pub count : ℕ
  pub whole : Branches
  pub answer : List Bool

-- the steps of an ask with its whole branches
abbrev pub ask_steps : ℕ → ℕ → Branches → List Step
ask_steps pattern count whole = Ask pattern count ∷ branch_steps whole

-- the steps before a place below these asks, the innermost first
abbrev pub steps_above : List AskAbove → List Step
steps_above [] = []
steps_above (ask ∷ above) = (steps_above above ++ ask_steps ask.pattern ask.count ask.whole) ++ On ask.answer ∷ []

-- What comes next: a node, below these asks; a branch of an ask of this pattern, below these asks; or nothing, as the
-- node is whole.
pub data Growth : Type 0 where
  before_node : List AskAbove → Growth
  before_branch : List AskAbove → (pattern count : ℕ) (whole : Branches) → Growth
  grown : PlanNode → Growth

abbrev pub steps_so_far : Growth → List Step
steps_so_far (before_node above) = steps_above above
steps_so_far (before_branch above pattern count whole) = steps_above above ++ ask_steps pattern count whole
steps_so_far (grown node) = node_steps node

-- Each ask has fewer whole branches than branches, which leaves room for the one that contains the place.
abbrev pub HaveRoom : List AskAbove → Type 0
HaveRoom [] = ⊤
HaveRoom (ask ∷ above) = (length (branch_answers ask.whole) < ask.count) × HaveRoom above

abbrev pub IsRoomy : Growth → Type 0
IsRoomy (before_node above) = HaveRoom above
IsRoomy (before_branch above pattern count whole) = (length (branch_answers whole) < count) × HaveRoom above
IsRoomy (grown node) = ⊤

-- ---- what may come next

abbrev pub MayComeFirst : Step → Type 0
MayComeFirst (Ask pattern branches) = ⊤
MayComeFirst (On answer) = ⊥
MayComeFirst (Class class) = ⊤

abbrev pub IsBranch : Step → Type 0
IsBranch (Ask pattern branches) = ⊥
IsBranch (On answer) = ⊤
IsBranch (Class class) = ⊥

abbrev pub MayStepCome : Growth → Step → Type 0
MayStepCome (before_node above) s = MayComeFirst s
MayStepCome (before_branch above pattern count whole) s = IsBranch s
MayStepCome (grown node) s = ⊥

-- whether an answer is one of these
abbrev pub has_answer : List (List Bool) → List Bool → Bool
has_answer answers answer = list_any (same_bits answer) answers
