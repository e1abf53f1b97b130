-- Plans as trees. A node is a class that is reached, or asks a pattern and has a branch for each of some answers.
use Rattle.std.specs.Prelude.{◌≡◌, ℕ, ◌+◌, max, Bool, true, false, List, [], ◌∷◌, ◌++◌, length, count_by}
use Rattle.adaptive_tree.specs.declared.steps.Step.{Step}
use Rattle.adaptive_tree.specs.declared.steps.Step.TheVariants.{Ask, On, Class}
use Rattle.adaptive_tree.specs.declared.steps.Plan.{Plan}

mutual
  pub data PlanNode : Type 0 where
    leaf : (class : ℕ) → PlanNode
    ask : (pattern : ℕ) (branches : Branches) → PlanNode

  -- branches in order, each with its answer and its node
  pub data Branches : Type 0 where
    no_branch : Branches
    branch : (answer : List Bool) (node : PlanNode) (others : Branches) → Branches

-- the answers for which there is a branch
abbrev pub branch_answers : Branches → List (List Bool)
branch_answers no_branch = []
branch_answers (branch answer node others) = answer ∷ branch_answers others

-- a node as steps: after an ask come its branches, and after a branch its node
abbrev mutual
  pub node_steps : PlanNode → List Step
  node_steps (leaf class) = Class class ∷ []
  node_steps (ask pattern branches) = Ask pattern (length (branch_answers branches)) ∷ branch_steps branches

  pub branch_steps : Branches → List Step
  branch_steps no_branch = []
  branch_steps (branch answer node others) = On answer ∷ (node_steps node ++ branch_steps others)

-- The steps begin with those of `node`, and `rest` are the steps after it.
pub record BeginsWithNode (steps : List Step) : Type 0 where
  pub node : PlanNode
  pub rest : List Step
  pub steps_are : steps ≡ node_steps node ++ rest

-- The steps of the plan are exactly those of one node.
pub record HasNode (plan : Plan) : Type 0 where
  pub node : PlanNode
  pub steps_are : plan.steps ≡ node_steps node

-- ---- counts

abbrev pub is_ask : Step → Bool
is_ask (Ask pattern branches) = true
is_ask (On answer) = false
is_ask (Class class) = false

-- the number of asks among the steps
abbrev pub ask_count : List Step → ℕ
ask_count steps = count_by is_ask steps

-- the greatest number of asks on one way down from a node
abbrev mutual
  pub depth_of : PlanNode → ℕ
  depth_of (leaf class) = 0
  depth_of (ask pattern branches) = deepest branches + 1

  pub deepest : Branches → ℕ
  deepest no_branch = 0
  deepest (branch answer node others) = max (depth_of node) (deepest others)
