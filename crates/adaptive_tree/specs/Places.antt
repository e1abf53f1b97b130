-- The places of nodes and branches in the steps of a plan.
use Rattle.std.specs.Prelude.{◌≡◌, ℕ, ◌+◌, ◌-◌, List, ◌++◌, length, drop, Option, None, Some, ⊤}
use Rattle.text_fields.specs.Fields.{Text, digit_bits}
use Rattle.diagnose.specs.LogText.{BeginsWithLine}
use Rattle.adaptive_tree.specs.declared.steps.Step.{Step}
use Rattle.adaptive_tree.specs.declared.steps.Step.TheVariants.{Ask, On, Class}
use Rattle.adaptive_tree.specs.declared.outcome.Outcome.{Outcome}
use Rattle.adaptive_tree.specs.declared.outcome.Outcome.TheVariants as outcome
use Rattle.adaptive_tree.specs.PlanNode.{PlanNode, Branches, branch_answers, node_steps, branch_steps}

-- The steps of the node begin at the place.
pub record StandsAt (steps : List Step) (place : ℕ) (node : PlanNode) : Type 0 where
  pub rest : List Step
  pub there : drop place steps ≡ node_steps node ++ rest

-- The steps of `count` branches begin at the place.
pub record HasBranchesAt (steps : List Step) (place count : ℕ) : Type 0 where
  pub branches : Branches
  pub rest : List Step
  pub count_is : length (branch_answers branches) ≡ count
  pub there : drop place steps ≡ branch_steps branches ++ rest

-- The walk is at this node, whose steps begin at the place; without a place it is at no node.
abbrev pub IsWalkAt : List Step → Option ℕ → Option PlanNode → Type 0
IsWalkAt steps None None = ⊤
IsWalkAt steps None (Some node) = ⊥
IsWalkAt steps (Some place) None = ⊥
IsWalkAt steps (Some place) (Some node) = StandsAt steps place node

pub record IsWalkSomewhere (steps : List Step) (place : Option ℕ) : Type 0 where
  pub node : Option PlanNode
  pub at : IsWalkAt steps place node

-- The text begins with the line of an answer to the pattern that is asked, with digits of the right width.
pub record IsAnswerLine (positions : ℕ) (end : Outcome) (text : Text) (pattern : ℕ) (digits rest : Text) : Type 0 where
  pub begins : BeginsWithLine text pattern (digit_bits digits) rest
  pub asked : end ≡ outcome.Ask pattern
  pub width : length digits ≡ positions

-- how many nodes are still to end after a step, if `left` were before it
abbrev pub nodes_behind : Step → ℕ → ℕ
nodes_behind (Ask pattern branches) left = left - 1 + branches
nodes_behind (On answer) left = left
nodes_behind (Class class) left = left - 1
