-- The lines of a plan as a reader holds them: an answer is held as the digits of its line.
use Rattle.std.specs.Prelude.{◌≡◌, ℕ, ◌∷◌, ◌++◌, codes, decimal, ⊤}
use Rattle.net_model.specs.Ascii.{space}
use Rattle.text_fields.specs.Fields.{Text, IsNumber, digit_bits, AreDigitsOf}
use Rattle.adaptive_tree.specs.declared.line.Form.{Form}
use Rattle.adaptive_tree.specs.declared.line.Form.TheVariants as form
use Rattle.adaptive_tree.specs.declared.steps.Step.TheVariants.{Ask, On, Class}
use Rattle.adaptive_tree.specs.PlanText.{PlanLine, head, step, end, plan_line, HasPlanSpelling}
use Rattle.adaptive_tree.specs.Refusal.{BeginsWithPlanLine}

abbrev pub form_line : Form → PlanLine
form_line (form.Head positions patterns classes) = head positions patterns classes
form_line (form.Ask pattern branches) = step (Ask pattern branches)
form_line (form.On digits) = step (On (digit_bits digits.now))
form_line (form.Class class) = step (Class class)
form_line form.End = end

-- The answer of the form, if it has one, is digits.
abbrev pub HasDigits : Form → Type 0
HasDigits (form.Head positions patterns classes) = ⊤
HasDigits (form.Ask pattern branches) = ⊤
HasDigits (form.On digits) = AreDigitsOf (digit_bits digits.now) digits.now
HasDigits (form.Class class) = ⊤
HasDigits form.End = ⊤

-- The form is that of the line, which can be written.
pub record IsFormOf (line : Text) (f : Form) : Type 0 where
  pub spelled : HasPlanSpelling (form_line f)
  pub digits : HasDigits f
  pub line_is : plan_line (form_line f) ≡ line

-- The form is that of the line with which the text begins, and `rest` is the text after it.
pub record IsFirstForm (text : Text) (f : Form) (rest : Text) : Type 0 where
  pub begins : BeginsWithPlanLine text (form_line f) rest
  pub digits : HasDigits f

-- The text is the spelling of no line of a plan.
abbrev pub IsNoPlanLine : Text → Type 0
IsNoPlanLine text = (line : PlanLine) → HasPlanSpelling line → plan_line line ≡ text → ⊥

-- ---- numbers one after another

abbrev pub pair_text : ℕ → ℕ → Text
pair_text m n = decimal m ++ space ∷ decimal n

-- the version and the sizes of a plan
abbrev pub sizes_text : ℕ → ℕ → ℕ → Text
sizes_text positions patterns classes = codes "1" ++ space ∷ (decimal positions ++ space ∷ pair_text patterns classes)

pub record IsPairIn (text : Text) (m n : ℕ) : Type 0 where
  pub first : IsNumber m
  pub second : IsNumber n
  pub text_is : pair_text m n ≡ text
