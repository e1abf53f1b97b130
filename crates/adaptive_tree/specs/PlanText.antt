-- How a plan is written: a line for its sizes, one for each step, and the end.
use Rattle.std.specs.Prelude.{ℕ, List, [], ◌∷◌, ◌++◌, map, flat_map, codes, decimal, ⊤}
use Rattle.std.specs.List.{join_with_byte}
use Rattle.net_model.specs.Ascii.{line_feed, space}
use Rattle.net_model.specs.BitText.{bits_text}
use Rattle.text_fields.specs.Fields.{IsNumber, Text}
use Rattle.adaptive_tree.specs.declared.steps.Step.{Step}
use Rattle.adaptive_tree.specs.declared.steps.Step.TheVariants.{Ask, On, Class}
use Rattle.adaptive_tree.specs.declared.steps.Plan.{Plan}

pub data PlanLine : Type 0 where
  head : (positions patterns classes : ℕ) → PlanLine
  step : Step → PlanLine
  end : PlanLine

abbrev pub plan_step_fields : Step → List Text
plan_step_fields (Ask pattern branches) = codes "ask" ∷ decimal pattern ∷ decimal branches ∷ []
plan_step_fields (On answer) = codes "on" ∷ bits_text answer ∷ []
plan_step_fields (Class class) = codes "class" ∷ decimal class ∷ []

abbrev pub plan_line_fields : PlanLine → List Text
plan_line_fields (head positions patterns classes) = codes "adapt" ∷ codes "1" ∷ decimal positions ∷ decimal patterns ∷ decimal classes ∷ []
plan_line_fields (step s) = plan_step_fields s
plan_line_fields end = codes "end" ∷ []

unfoldable pub plan_line : PlanLine → Text
plan_line line = join_with_byte space (plan_line_fields line)

-- the text of lines, each with its LF
abbrev pub plan_lines_text : List PlanLine → Text
plan_lines_text lines = flat_map (λ line. plan_line line ++ line_feed ∷ []) lines

abbrev pub plan_lines : Plan → List PlanLine
plan_lines plan = head plan.positions plan.patterns plan.classes ∷ (map step plan.steps ++ end ∷ [])

abbrev pub plan_text : Plan → Text
plan_text plan = plan_lines_text (plan_lines plan)

-- ---- which lines can be written

abbrev pub HasPlanStepSpelling : Step → Type 0
HasPlanStepSpelling (Ask pattern branches) = IsNumber pattern × IsNumber branches
HasPlanStepSpelling (On answer) = ⊤
HasPlanStepSpelling (Class class) = IsNumber class

abbrev pub HasPlanSpelling : PlanLine → Type 0
HasPlanSpelling (head positions patterns classes) = IsNumber positions × IsNumber patterns × IsNumber classes
HasPlanSpelling (step s) = HasPlanStepSpelling s
HasPlanSpelling end = ⊤
