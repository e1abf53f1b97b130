-- The rule of each line of a plan, given the lines before it.
use Rattle.std.specs.Prelude.{◌≡◌, ℕ, ◌<◌, ◌≤◌, Bool, List, [], ◌∷◌, ◌++◌, length, take, fold, slice_index_or, All, Contains, ⊤}
use Rattle.text_fields.specs.Fields.{Text}
use Rattle.diagnose.specs.Lines.{text_limit}
use Rattle.adaptive_tree.specs.declared.steps.Step.{Step}
use Rattle.adaptive_tree.specs.declared.steps.Step.TheVariants.{Ask, On, Class}
use Rattle.adaptive_tree.specs.declared.steps.Plan.{Plan}
use Rattle.adaptive_tree.specs.PlanNode.{Branches, branch_answers, branch_steps, BeginsWithNode, HasNode}
use Rattle.adaptive_tree.specs.PlanText.{PlanLine, head, step, end, plan_lines, plan_text, HasPlanSpelling}

-- ---- what is above a place

-- An ask among the steps before a place, whose node isn't whole there.
pub record OpenAsk (before : List Step) : Type 0 where
  pub above : List Step
  pub pattern : ℕ
  pub branches : ℕ
  pub since : List Step
  pub stands : before ≡ above ++ Ask pattern branches ∷ since
  pub unfinished : ¬ BeginsWithNode (Ask pattern branches ∷ since)

-- The pattern is asked above, on the way to the place.
abbrev pub IsAskedAbove : List Step → ℕ → Type 0
IsAskedAbove before pattern = (above : OpenAsk before) × (above.pattern ≡ pattern)

-- The ask whose next branch begins at the place already has a branch for this answer.
abbrev pub HasBranch : List Step → List Bool → Type 0
HasBranch before answer = (above : OpenAsk before) × (branches : Branches) × (above.since ≡ branch_steps branches) × Contains (branch_answers branches) answer

-- ---- steps, after those of a plan that was begun

pub record IsRightAsk (begun : Plan) (pattern branches : ℕ) : Type 0 where
  pub within : pattern < begun.patterns
  pub new : ¬ IsAskedAbove begun.steps pattern
  pub several : 2 ≤ branches

pub record IsRightBranch (begun : Plan) (answer : List Bool) : Type 0 where
  pub width : length answer ≡ begun.positions
  pub new : ¬ HasBranch begun.steps answer

-- The step has right values after the steps of the plan: an ask a pattern of the plan that isn't asked above and two or
-- more branches, a branch an answer of the right width that its ask has no branch for, and a class is one of the
-- plan's.
abbrev pub IsRightStep : Plan → Step → Type 0
IsRightStep begun (Ask pattern branches) = IsRightAsk begun pattern branches
IsRightStep begun (On answer) = IsRightBranch begun answer
IsRightStep begun (Class class) = class < begun.classes

-- ---- lines

abbrev pub no_plan : Plan
no_plan = record { positions = 0; patterns = 0; classes = 0; steps = [] }

abbrev pub with_line : Plan → PlanLine → Plan
with_line begun (head positions patterns classes) = record begun { positions = positions; patterns = patterns; classes = classes }
with_line begun (step s) = record begun { steps = begun.steps ++ s ∷ [] }
with_line begun end = begun

-- the plan that these lines begin: its sizes, and its steps so far
abbrev pub plan_begun : List PlanLine → Plan
plan_begun lines = fold with_line no_plan lines

-- The line's values are right after these lines.
abbrev pub IsRightPlanLine : List PlanLine → PlanLine → Type 0
IsRightPlanLine before (head positions patterns classes) = ⊤
IsRightPlanLine before (step s) = IsRightStep (plan_begun before) s
IsRightPlanLine before end = ⊤

-- The lines of some plan whose steps are one node begin with these, so each of these is in its place.
pub record BeginPlan (lines : List PlanLine) : Type 0 where
  pub plan : Plan
  pub node : HasNode plan
  pub more : List PlanLine
  pub begins : plan_lines plan ≡ lines ++ more

abbrev pub line_at : List PlanLine → ℕ → PlanLine
line_at lines at = slice_index_or lines at end

-- Each line can be written, is in its place, and has right values after those before it.
pub record AreRightPlanLines (lines : List PlanLine) : Type 0 where
  pub spelled : All HasPlanSpelling lines
  pub places : BeginPlan lines
  pub right : (at : ℕ) → at < length lines → IsRightPlanLine (take at lines) (line_at lines at)

-- ---- plans

-- The steps are one node, and each line can be written, is in its place and has right values, given those before it.
pub record IsWellFormed (plan : Plan) : Type 0 where
  pub node : HasNode plan
  pub lines : AreRightPlanLines (plan_lines plan)

-- The plan is well formed, and the text is that of the plan and isn't too long.
pub record IsTextOf (plan : Plan) (text : Text) : Type 0 where
  pub well_formed : IsWellFormed plan
  pub text_is : text ≡ plan_text plan
  pub short : length text ≤ text_limit
