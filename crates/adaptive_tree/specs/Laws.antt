-- Laws: of nodes and their steps, of texts of plans, and of logs.
use Rattle.std.specs.Prelude.{◌≡◌, ◌≤◌, ℕ, List, [], ◌++◌, length, All}
use Rattle.diagnose.specs.declared.fault.LogKind.{LogKind}
use Rattle.text_fields.specs.Fields.{Text}
use Rattle.diagnose.specs.Lines.{text_limit}
use Rattle.adaptive_tree.specs.declared.steps.Step.{Step}
use Rattle.adaptive_tree.specs.declared.steps.Plan.{Plan}
use Rattle.adaptive_tree.specs.declared.fault.PlanKind.{PlanKind}
use Rattle.adaptive_tree.specs.declared.fault.PlanKind.TheVariants.{TooLong}
use Rattle.adaptive_tree.specs.declared.outcome.Outcome.{Outcome}
use Rattle.adaptive_tree.specs.PlanNode.{PlanNode, HasNode, node_steps, depth_of}
use Rattle.adaptive_tree.specs.PlanText.{plan_lines, plan_text, HasPlanSpelling}
use Rattle.adaptive_tree.specs.WellFormed.{IsWellFormed, IsTextOf}
use Rattle.adaptive_tree.specs.RightNode.{IsRightNode}
use Rattle.adaptive_tree.specs.Refusal.{PlanRefused}
use Rattle.adaptive_tree.specs.AnswerLog.{LeadsTo, WalkRefused}

-- steps begin with at most one node
abbrev pub OneNode : Type 0
OneNode = (node other : PlanNode) (rest more : List Step) → node_steps node ++ rest ≡ node_steps other ++ more → (node ≡ other) × (rest ≡ more)

-- a plan is well formed if its lines can be written and its values are right down its tree
abbrev pub RightTreesAreWellFormed : Type 0
RightTreesAreWellFormed = (plan : Plan) (root : HasNode plan) → All HasPlanSpelling (plan_lines plan) → IsRightNode plan [] root.node → IsWellFormed plan

-- the values of a well-formed plan are right down its tree
abbrev pub WellFormedTreesAreRight : Type 0
WellFormedTreesAreRight = (plan : Plan) (root : HasNode plan) → IsWellFormed plan → IsRightNode plan [] root.node

-- no way of a well-formed plan has more asks than there are patterns
abbrev pub WaysAreShort : Type 0
WaysAreShort = (plan : Plan) (root : HasNode plan) → IsWellFormed plan → depth_of root.node ≤ plan.patterns

-- ---- texts

-- a text is that of at most one plan
abbrev pub OnePlanReading : Type 0
OnePlanReading = (text : Text) (plan other : Plan) → IsTextOf plan text → IsTextOf other text → plan ≡ other

-- a text that is refused is that of no plan
abbrev pub RefusedPlanIsWrong : Type 0
RefusedPlanIsWrong = (text : Text) (plan : Plan) (kind : PlanKind) (line : ℕ) → PlanRefused text kind line → ¬ IsTextOf plan text

-- a text is refused for at most one rule, at one line
abbrev pub OnePlanRefusal : Type 0
OnePlanRefusal = (text : Text) (kind other : PlanKind) (line number : ℕ) → PlanRefused text kind line → PlanRefused text other number → (kind ≡ other) × (line ≡ number)

-- the text of a well-formed plan is read as this plan, unless it is too long
abbrev pub WrittenIsRead : Type 0
WrittenIsRead = (plan : Plan) → IsWellFormed plan → length (plan_text plan) ≤ text_limit → IsTextOf plan (plan_text plan)

-- the text of a well-formed plan is refused only for its length
abbrev pub RefusedForLength : Type 0
RefusedForLength = (plan : Plan) (kind : PlanKind) (line : ℕ) → IsWellFormed plan → PlanRefused (plan_text plan) kind line → kind ≡ TooLong

-- ---- logs

-- a log leads to at most one outcome in a well-formed plan
abbrev pub OneOutcome : Type 0
OneOutcome = (plan : Plan) (text : Text) (end other : Outcome) → IsWellFormed plan → LeadsTo plan text end → LeadsTo plan text other → end ≡ other

-- in a well-formed plan a log that is refused leads to no outcome, not even to `Unknown`
abbrev pub RefusedWalkIsWrong : Type 0
RefusedWalkIsWrong = (plan : Plan) (text : Text) (end : Outcome) (kind : LogKind) (line : ℕ) → IsWellFormed plan → WalkRefused plan text kind line → ¬ LeadsTo plan text end

-- in a well-formed plan a log is refused for at most one rule, at one line
abbrev pub OneWalkRefusal : Type 0
OneWalkRefusal = (plan : Plan) (text : Text) (kind other : LogKind) (line number : ℕ) → IsWellFormed plan → WalkRefused plan text kind line → WalkRefused plan text other number → (kind ≡ other) × (line ≡ number)
