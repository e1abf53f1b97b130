-- Which bytes are accepted as an adaptive plan, and which are refused with which text.
use Rattle.std.specs.Prelude.{◌≡◌, ℕ}
use Rattle.adaptive_tree.specs.declared.fault.PlanKind.{PlanKind}
use Rattle.adaptive_tree.specs.declared.steps.Plan.{Plan as AdaptivePlan}
use Rattle.adaptive_tree.specs.WellFormed.{IsTextOf}
use Rattle.adaptive_tree.specs.Refusal.{PlanRefused}
use Rattle.text_fields.specs.Fields.{Text}
use Rattle.run_steps.specs.Texts.{plan_fault_text}

-- ---- a file

-- The bytes are accepted as this plan.
abbrev pub IsAdaptivePlanFile : Text → AdaptivePlan → Type 0
IsAdaptivePlanFile bytes plan = IsTextOf plan bytes

-- The bytes are refused as an adaptive plan, and `console` is the text of the refusal.
pub record IsRefusedPlan (bytes console : Text) : Type 0 where
  pub kind : PlanKind
  pub line : ℕ
  pub refused : PlanRefused bytes kind line
  pub console_is : console ≡ plan_fault_text kind line
