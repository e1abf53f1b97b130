-- Which line of a text is refused if the text isn't that of a plan, and for which rule.
use Rattle.std.specs.Prelude.{◌≡◌, ◌≢◌, ℕ, ◌+◌, ◌<◌, ◌≤◌, List, [], ◌∷◌, ◌++◌, length, ⊤}
use Rattle.net_model.specs.Ascii.{line_feed}
use Rattle.text_fields.specs.Fields.{Text}
use Rattle.diagnose.specs.Lines.{text_limit, line_number}
use Rattle.adaptive_tree.specs.declared.fault.PlanKind.{PlanKind}
use Rattle.adaptive_tree.specs.declared.fault.PlanKind.TheVariants.{Syntax, Order, Value, TooLong}
use Rattle.adaptive_tree.specs.declared.fault.PlanFault.{PlanFault}
use Rattle.adaptive_tree.specs.declared.fault.PlanFault.TheVariants.{At, NoMemory}
use Rattle.adaptive_tree.specs.declared.steps.Plan.{Plan}
use Rattle.adaptive_tree.specs.PlanNode.{HasNode}
use Rattle.adaptive_tree.specs.PlanText.{PlanLine, plan_line, plan_lines_text, plan_lines, HasPlanSpelling}
use Rattle.adaptive_tree.specs.WellFormed.{BeginPlan, IsRightPlanLine, AreRightPlanLines}

-- The text begins with this line, which can be written, and `more` is the text after it.
abbrev pub BeginsWithPlanLine : Text → PlanLine → Text → Type 0
BeginsWithPlanLine text line more = HasPlanSpelling line × (text ≡ plan_line line ++ line_feed ∷ more)

-- The text begins with no line of a plan.
abbrev pub HasNoPlanLine : Text → Type 0
HasNoPlanLine text = (line : PlanLine) (more : Text) → BeginsWithPlanLine text line more → ⊥

-- The lines are all those of some plan, whose steps are one node.
pub record AreWhole (lines : List PlanLine) : Type 0 where
  pub plan : Plan
  pub node : HasNode plan
  pub lines_are : plan_lines plan ≡ lines

-- The text after these lines is refused for a rule of this kind: it is empty and the lines aren't a whole plan, it
-- begins with no line, or its first line may not come there or has wrong values.
pub data PlanRestRefused (before : List PlanLine) (rest : Text) (kind : PlanKind) : Type 0 where
  cut_short : rest ≡ [] → ¬ AreWhole before → kind ≡ Order → PlanRestRefused before rest kind
  no_line : rest ≢ [] → HasNoPlanLine rest → kind ≡ Syntax → PlanRestRefused before rest kind
  misplaced : (line : PlanLine) (more : Text) → BeginsWithPlanLine rest line more → ¬ BeginPlan (before ++ line ∷ []) → kind ≡ Order → PlanRestRefused before rest kind
  wrong : (line : PlanLine) (more : Text) → BeginsWithPlanLine rest line more → BeginPlan (before ++ line ∷ []) → ¬ IsRightPlanLine before line → kind ≡ Value → PlanRestRefused before rest kind

-- The text is refused for a rule of this kind at the line with this number: it is too long, or the text after some
-- right lines is refused.
pub data PlanRefused (text : Text) (kind : PlanKind) (number : ℕ) : Type 0 where
  too_long : text_limit < length text → kind ≡ TooLong → number ≡ line_number text text_limit → PlanRefused text kind number
  at_line : (before : List PlanLine) (rest : Text) → length text ≤ text_limit → AreRightPlanLines before → text ≡ plan_lines_text before ++ rest → PlanRestRefused before rest kind → number ≡ length before + 1 → PlanRefused text kind number

-- The fault has the rule and the line of a refusal, or says that memory is missing.
abbrev pub TellsPlanFault : (PlanKind → ℕ → Type 0) → PlanFault → Type 0
TellsPlanFault Refused (At kind line) = Refused kind line
TellsPlanFault Refused NoMemory = ⊤
