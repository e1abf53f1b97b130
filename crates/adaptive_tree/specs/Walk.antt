-- Where answers lead in a plan.
use Rattle.std.specs.Prelude.{Bool, List, fold, Option, Some, None, option_and_then, if◌then◌else◌}
use Rattle.net_model.specs.ClassTable.{same_bits}
use Rattle.adaptive_tree.specs.declared.outcome.Outcome.{Outcome}
use Rattle.adaptive_tree.specs.declared.outcome.Outcome.TheVariants as outcome
use Rattle.adaptive_tree.specs.PlanNode.{PlanNode, Branches, leaf, ask, no_branch, branch}

-- the node of the branch whose answer has these bits, if there is one
abbrev pub branch_for : List Bool → Branches → Option PlanNode
branch_for bits no_branch = None
branch_for bits (branch answer node others) = if same_bits answer bits then Some node else branch_for bits others

-- the node to which an answer leads from a node, if there is one; from a class no answer leads on
abbrev pub next_node : List Bool → PlanNode → Option PlanNode
next_node bits (leaf class) = None
next_node bits (ask pattern branches) = branch_for bits branches

-- the node to which answers, one after another, lead from a node, if there is one
abbrev pub node_after : PlanNode → List (List Bool) → Option PlanNode
node_after first answers = fold (λ node bits. option_and_then (next_node bits) node) (Some first) answers

-- the class that is reached, the pattern that is asked, or `Unknown` if there is no node
abbrev pub outcome_at : Option PlanNode → Outcome
outcome_at None = outcome.Unknown
outcome_at (Some (leaf class)) = outcome.Class class
outcome_at (Some (ask pattern branches)) = outcome.Ask pattern

-- the outcome of answers from a node: the class that is reached, the pattern that is asked, or `Unknown` if no branch
-- has the bits of an answer
abbrev pub outcome_of : PlanNode → List (List Bool) → Outcome
outcome_of first answers = outcome_at (node_after first answers)
