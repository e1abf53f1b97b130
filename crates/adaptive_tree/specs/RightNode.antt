-- The rules of a plan's values, down its tree.
use Rattle.std.specs.Prelude.{◌≡◌, ℕ, ◌<◌, ◌≤◌, Bool, List, [], ◌∷◌, ◌++◌, length, Contains, ⊤}
use Rattle.adaptive_tree.specs.declared.steps.Plan.{Plan}
use Rattle.adaptive_tree.specs.PlanNode.{PlanNode, Branches, leaf, ask, no_branch, branch, branch_answers}

module _ (plan : Plan) where
  abbrev mutual
    -- A class is one of the plan's. An ask has a pattern of the plan that isn't asked above, and two or more right
    -- branches.
    pub IsRightNode : List ℕ → PlanNode → Type 0
    IsRightNode above (leaf class) = class < plan.classes
    IsRightNode above (ask pattern branches) = (pattern < plan.patterns) × ¬ Contains above pattern × (2 ≤ length (branch_answers branches)) × AreRightBranches (pattern ∷ above) [] branches

    -- Each branch has an answer of the right width that no branch before it has, and a right node.
    pub AreRightBranches : List ℕ → List (List Bool) → Branches → Type 0
    AreRightBranches above before no_branch = ⊤
    AreRightBranches above before (branch answer node others) = (length answer ≡ plan.positions) × ¬ Contains before answer × IsRightNode above node × AreRightBranches above (before ++ answer ∷ []) others
