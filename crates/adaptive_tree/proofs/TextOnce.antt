-- A text is that of at most one plan, or is refused for one rule at one line, and never both.
use Rattle.std.proofs.Common.{◌≡◌, ◌∙◌, ℕ, ◌+◌, ◌<◌, refl, ap, sym, subst, arith, append_assoc, append-nil, length-append}
use Rattle.std.specs.Prelude.{List, [], ◌∷◌, ◌++◌, length, take, All}
use Rattle.std.specs.List.{AllByRecursion}
use Rattle.std.proofs.lemmas.List.Elements.{recursion_from_All}
use Rattle.text_fields.specs.Fields.{Text}
use Rattle.adaptive_tree.specs.declared.steps.Plan.{Plan}
use Rattle.adaptive_tree.specs.declared.fault.PlanKind.{PlanKind}
use Rattle.adaptive_tree.specs.PlanNode.{HasNode}
use Rattle.adaptive_tree.specs.PlanText.{PlanLine, head, step, end, plan_line, plan_lines_text, plan_lines, plan_text, HasPlanSpelling}
use Rattle.adaptive_tree.specs.WellFormed.{BeginPlan, AreRightPlanLines, IsRightPlanLine, IsWellFormed, line_at}
use Rattle.adaptive_tree.specs.Refusal.{BeginsWithPlanLine, PlanRestRefused, cut_short, no_line, misplaced, wrong, too_long, at_line}
use Rattle.adaptive_tree.specs.Laws.{OnePlanReading, RefusedPlanIsWrong, OnePlanRefusal, RefusedForLength}
use Rattle.adaptive_tree.proofs.StepTests.{steps_in, steps_of_plan}
use Rattle.adaptive_tree.proofs.LineLemmas.{line_once}
use Rattle.adaptive_tree.proofs.TextLists.{Compare, compare, same, shorter, longer, text_once}
use Rattle.text_fields.proofs.Cuts.{not_empty}

by_recursion : (lines : List PlanLine) → All HasPlanSpelling lines → AllByRecursion HasPlanSpelling lines
by_recursion lines all = recursion_from_All HasPlanSpelling lines all

-- ---- lines after others

begin_less : (before : List PlanLine) (line : PlanLine) (later : List PlanLine) → BeginPlan (before ++ line ∷ later) → BeginPlan (before ++ line ∷ [])
begin_less before line later b = record {
  plan = b.plan;
  node = b.node;
  more = later ++ b.more;
  begins = b.begins ∙ (append_assoc before (line ∷ later) b.more ∙ sym (append_assoc before (line ∷ []) (later ++ b.more)));
}

taken : (before lines : List PlanLine) → take (length before) (before ++ lines) ≡ before
taken [] lines = refl
taken (x ∷ before) lines = ap (λ rest. x ∷ rest) (taken before lines)

found : (before : List PlanLine) (line : PlanLine) (later : List PlanLine) → line_at (before ++ line ∷ later) (length before) ≡ line
found [] line later = refl
found (x ∷ before) line later = found before line later

right_there : (before : List PlanLine) (line : PlanLine) (later : List PlanLine) → AreRightPlanLines (before ++ line ∷ later) → IsRightPlanLine before line
right_there before line later right =
    let low : length before < length (before ++ line ∷ later) = omega (arith, length-append before (line ∷ later)) in
    subst (λ front. IsRightPlanLine front line) (taken before (line ∷ later))
    (subst (IsRightPlanLine (take (length before) (before ++ line ∷ later))) (found before line later) (right.right (length before) low))

-- what begins with the next of some right lines isn't refused
not_refused : (before : List PlanLine) (rest : Text) (kind : PlanKind) (line : PlanLine) (later : List PlanLine) (more : Text) → AreRightPlanLines (before ++ line ∷ later) → HasPlanSpelling line → rest ≡ plan_line line ++ 10 ∷ more → PlanRestRefused before rest kind → ⊥
not_refused before rest kind line later more right spelled e (cut_short none whole order) = not_empty (plan_line line) more 10 (sym e ∙ none)
not_refused before rest kind line later more right spelled e (no_line some none syntax) = none line more (spelled, e)
not_refused before rest kind line later more right spelled e (misplaced other tail begins place order) =
    let equal : line ≡ other = (line_once line other more tail spelled begins.0 (sym e ∙ begins.1)).0 in
    place (subst (λ x. BeginPlan (before ++ x ∷ [])) equal (begin_less before line later right.places))
not_refused before rest kind line later more right spelled e (wrong other tail begins place content value) =
    let equal : line ≡ other = (line_once line other more tail spelled begins.0 (sym e ∙ begins.1)).0 in
    content (subst (IsRightPlanLine before) equal (right_there before line later right))

-- ---- one rule

no_start : (rest : Text) (line : PlanLine) (more : Text) → BeginsWithPlanLine rest line more → rest ≡ [] → ⊥
no_start rest line more begins none = not_empty (plan_line line) more 10 (sym begins.1 ∙ none)

rest_once : (before : List PlanLine) (rest : Text) (kind other : PlanKind) → PlanRestRefused before rest kind → PlanRestRefused before rest other → kind ≡ other
rest_once before rest kind other (cut_short none whole k) (cut_short none' whole' o) = k ∙ sym o
rest_once before rest kind other (cut_short none whole k) (no_line some without o) = absurd (some none)
rest_once before rest kind other (cut_short none whole k) (misplaced line more begins place o) = absurd (no_start rest line more begins none)
rest_once before rest kind other (cut_short none whole k) (wrong line more begins place content o) = absurd (no_start rest line more begins none)
rest_once before rest kind other (no_line some without k) (cut_short none whole o) = absurd (some none)
rest_once before rest kind other (no_line some without k) (no_line some' without' o) = k ∙ sym o
rest_once before rest kind other (no_line some without k) (misplaced line more begins place o) = absurd (without line more begins)
rest_once before rest kind other (no_line some without k) (wrong line more begins place content o) = absurd (without line more begins)
rest_once before rest kind other (misplaced line more begins place k) (cut_short none whole o) = absurd (no_start rest line more begins none)
rest_once before rest kind other (misplaced line more begins place k) (no_line some without o) = absurd (without line more begins)
rest_once before rest kind other (misplaced line more begins place k) (misplaced line' more' begins' place' o) = k ∙ sym o
rest_once before rest kind other (misplaced line more begins place k) (wrong line' more' begins' place' content o) =
    let equal : line' ≡ line = (line_once line' line more' more begins'.0 begins.0 (sym begins'.1 ∙ begins.1)).0 in
    absurd (place (subst (λ x. BeginPlan (before ++ x ∷ [])) equal place'))
rest_once before rest kind other (wrong line more begins place content k) (cut_short none whole o) = absurd (no_start rest line more begins none)
rest_once before rest kind other (wrong line more begins place content k) (no_line some without o) = absurd (without line more begins)
rest_once before rest kind other (wrong line more begins place content k) (misplaced line' more' begins' place' o) =
    let equal : line ≡ line' = (line_once line line' more more' begins.0 begins'.0 (sym begins.1 ∙ begins'.1)).0 in
    absurd (place' (subst (λ x. BeginPlan (before ++ x ∷ [])) equal place))
rest_once before rest kind other (wrong line more begins place content k) (wrong line' more' begins' place' content' o) = k ∙ sym o

rules_once : (before others : List PlanLine) (rest more : Text) (kind other : PlanKind) (line number : ℕ) → AreRightPlanLines before → AreRightPlanLines others → PlanRestRefused before rest kind → PlanRestRefused others more other
    → line ≡ length before + 1 → number ≡ length others + 1 → Compare plan_line HasPlanSpelling line_once before others rest more → (kind ≡ other) × (line ≡ number)
rules_once before others rest more kind other line number one two refused refused' l n (same e f) =
    (rest_once others more kind other (subst (λ text. PlanRestRefused others text kind) f (subst (λ lines. PlanRestRefused lines rest kind) e refused)) refused', omega (arith, l, n, ap length e))
rules_once before others rest more kind other line number one two refused refused' l n (shorter next later e spelled f) =
    absurd (not_refused before rest kind next later (plan_lines_text later ++ more) (subst AreRightPlanLines e two) spelled f refused)
rules_once before others rest more kind other line number one two refused refused' l n (longer next later e spelled f) =
    absurd (not_refused others more other next later (plan_lines_text later ++ rest) (subst AreRightPlanLines e one) spelled f refused')

pub one_refusal : OnePlanRefusal
one_refusal text kind other line number (too_long long k l) (too_long long' o n) = (k ∙ sym o, l ∙ sym n)
one_refusal text kind other line number (too_long long k l) (at_line before rest short right is refused n) = absurd (omega (arith, long, short))
one_refusal text kind other line number (at_line before rest short right is refused l) (too_long long o n) = absurd (omega (arith, long, short))
one_refusal text kind other line number (at_line before rest short right is refused l) (at_line others more short' right' is' refused' n) =
    rules_once before others rest more kind other line number right right' refused refused' l n (compare plan_line HasPlanSpelling line_once before others rest more (by_recursion before right.spelled) (by_recursion others right'.spelled) (sym is ∙ is'))

-- ---- a text of a plan isn't refused

whole_not_refused : (plan : Plan) (rest : Text) (kind : PlanKind) → HasNode plan → rest ≡ [] → PlanRestRefused (plan_lines plan) rest kind → ⊥
whole_not_refused plan rest kind node none (cut_short none' whole order) = whole (record { plan = plan; node = node; lines_are = refl })
whole_not_refused plan rest kind node none (no_line some without syntax) = some none
whole_not_refused plan rest kind node none (misplaced line more begins place order) = no_start rest line more begins none
whole_not_refused plan rest kind node none (wrong line more begins place content value) = no_start rest line more begins none

by_compare : (plan : Plan) (before : List PlanLine) (rest : Text) (kind : PlanKind) → IsWellFormed plan → PlanRestRefused before rest kind → Compare plan_line HasPlanSpelling line_once before (plan_lines plan) rest [] → ⊥
by_compare plan before rest kind formed refused (same e f) = whole_not_refused plan rest kind formed.node f (subst (λ lines. PlanRestRefused lines rest kind) e refused)
by_compare plan before rest kind formed refused (shorter line later e spelled f) = not_refused before rest kind line later (plan_lines_text later ++ []) (subst AreRightPlanLines e formed.lines) spelled f refused
by_compare plan before rest kind formed refused (longer line later e spelled f) = not_empty (plan_line line) (plan_lines_text later ++ rest) 10 (sym f)

pub refused_wrong : RefusedPlanIsWrong
refused_wrong text plan kind line (too_long long k l) is = omega (arith, long, is.short)
refused_wrong text plan kind line (at_line before rest short right text_is refused l) is =
    by_compare plan before rest kind is.well_formed refused
    (compare plan_line HasPlanSpelling line_once before (plan_lines plan) rest [] (by_recursion before right.spelled) (by_recursion (plan_lines plan) is.well_formed.lines.spelled) (sym text_is ∙ (is.text_is ∙ sym (append-nil (plan_text plan)))))

pub refused_for_length : RefusedForLength
refused_for_length plan kind line formed (too_long long k l) = k
refused_for_length plan kind line formed (at_line before rest short right is refused l) =
    absurd (refused_wrong (plan_text plan) plan kind line (at_line before rest short right is refused l) (record { well_formed = formed; text_is = refl; short = short }))

-- ---- one plan

plan_in : List PlanLine → Plan
plan_in [] = record { positions = 0; patterns = 0; classes = 0; steps = [] }
plan_in (head positions patterns classes ∷ lines) = record { positions = positions; patterns = patterns; classes = classes; steps = steps_in lines }
plan_in (step s ∷ lines) = record { positions = 0; patterns = 0; classes = 0; steps = [] }
plan_in (end ∷ lines) = record { positions = 0; patterns = 0; classes = 0; steps = [] }

plan_is_in : (plan : Plan) → plan_in (plan_lines plan) ≡ plan
unfolding plan_in
plan_is_in plan = ap (λ steps. record plan { steps = steps }) (steps_of_plan plan.steps (end ∷ []) refl)

pub one_reading : OnePlanReading
one_reading text plan other one two =
    let lines : plan_lines plan ≡ plan_lines other = text_once plan_line HasPlanSpelling line_once (plan_lines plan) (plan_lines other)
    (by_recursion (plan_lines plan) one.well_formed.lines.spelled) (by_recursion (plan_lines other) two.well_formed.lines.spelled) (sym one.text_is ∙ two.text_is) in
    sym (plan_is_in plan) ∙ (ap plan_in lines ∙ plan_is_in other)
