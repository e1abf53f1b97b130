-- Where logs lead in small plans, and logs that are refused.
use Rattle.std.proofs.Common.{◌≡◌, ◌∙◌, ℕ, zero, suc, ◌+◌, refl, lit<, lit≤, arith, ap}
use Rattle.std.specs.Prelude.{Bool, true, false, List, [], ◌∷◌, ◌++◌, codes, length, ◌==◌, if◌then◌else◌}
use Rattle.std.specs.Fmt.{digits}
use Rattle.diagnose.specs.declared.fault.LogKind.TheVariants.{Syntax, Order, Width}
use Rattle.text_fields.specs.Fields.{Text}
use Rattle.diagnose.specs.LogText.{log_line, HasNoLine}
use Rattle.adaptive_tree.specs.declared.outcome.Outcome.{Outcome}
use Rattle.adaptive_tree.specs.declared.outcome.Outcome.TheVariants as outcome
use Rattle.adaptive_tree.specs.declared.steps.Plan.{Plan}
use Rattle.adaptive_tree.specs.PlanNode.{PlanNode, HasNode, leaf, ask, no_branch, branch}
use Rattle.adaptive_tree.specs.AnswerLog.{Answer, IsRightAnswer, AreRightAnswers, LeadsTo, WalkRefused, at_line, no_line, not_asked, wrong_width}
use Rattle.adaptive_tree.proofs.Examples.{text_of_lines, zero_bit, one_bit, with_steps, and_node, and_plan, three_bits, triple_node, triple_plan}

abbrev pub answer_with : ℕ → List Bool → Answer
answer_with pattern bits = record { pattern = pattern; bits = bits }

abbrev and_root : HasNode and_plan
and_root = record { node = and_node; steps_are = refl }

-- the first answers, and those that lead to a class
abbrev first_zero : List Answer
first_zero = answer_with 1 zero_bit ∷ []

abbrev to_three : List Answer
to_three = answer_with 1 zero_bit ∷ answer_with 2 one_bit ∷ []

abbrev first_one : List Answer
first_one = answer_with 1 one_bit ∷ []

abbrev to_two : List Answer
to_two = answer_with 1 one_bit ∷ answer_with 0 zero_bit ∷ []

none_right : (positions : ℕ) (node : PlanNode) → AreRightAnswers positions node []
none_right positions node at low = absurd (omega (arith, low))

one_right : (positions : ℕ) (node : PlanNode) (first : Answer) → IsRightAnswer positions node [] first → AreRightAnswers positions node (first ∷ [])
one_right positions node first right zero low = right
one_right positions node first right (suc at) low = absurd (omega (arith, low))

two_right : (positions : ℕ) (node : PlanNode) (first second : Answer) → IsRightAnswer positions node [] first → IsRightAnswer positions node (first ∷ []) second → AreRightAnswers positions node (first ∷ second ∷ [])
two_right positions node first second one two zero low = one
two_right positions node first second one two (suc zero) low = two
two_right positions node first second one two (suc (suc at)) low = absurd (omega (arith, low))

class_three : LeadsTo and_plan (text_of_lines (codes "1 0" ∷ codes "2 1" ∷ [])) (outcome.Class 3)
unfolding digits
class_three = record { root = and_root; answers = to_three; right = two_right 1 and_node _ _ (record { asked = refl; width = refl }) (record { asked = refl; width = refl }); text_is = refl; short = lit≤ tt; end_is = refl }

ask_zero : LeadsTo and_plan (text_of_lines (codes "1 1" ∷ [])) (outcome.Ask 0)
unfolding digits
ask_zero = record { root = and_root; answers = first_one; right = one_right 1 and_node _ (record { asked = refl; width = refl }); text_is = refl; short = lit≤ tt; end_is = refl }

ask_one : LeadsTo and_plan [] (outcome.Ask 1)
ask_one = record { root = and_root; answers = []; right = none_right 1 and_node; text_is = refl; short = lit≤ tt; end_is = refl }

-- the pattern that an outcome asks, plus 1; 0 for any other outcome
abbrev asked_pattern : Outcome → ℕ
asked_pattern (outcome.Class class) = 0
asked_pattern (outcome.Ask pattern) = suc pattern
asked_pattern outcome.Unknown = 0

not_first : WalkRefused and_plan (text_of_lines (codes "0 0" ∷ [])) Order 1
unfolding digits
not_first = at_line and_root [] _ (lit≤ tt) (none_right 1 and_node) refl (not_asked 0 zero_bit _ (lit< tt, refl) (λ e. omega (arith, ap asked_pattern e)) refl) refl

order_before_width : WalkRefused and_plan (text_of_lines (codes "0 00" ∷ [])) Order 1
unfolding digits
order_before_width = at_line and_root [] _ (lit≤ tt) (none_right 1 and_node) refl (not_asked 0 (false ∷ false ∷ []) _ (lit< tt, refl) (λ e. omega (arith, ap asked_pattern e)) refl) refl

too_wide : WalkRefused and_plan (text_of_lines (codes "1 00" ∷ [])) Width 1
unfolding digits
too_wide = at_line and_root [] _ (lit≤ tt) (none_right 1 and_node) refl (wrong_width 1 (false ∷ false ∷ []) _ (lit< tt, refl) refl (λ e. omega (arith, e)) refl) refl

behind_class : WalkRefused and_plan (text_of_lines (codes "1 1" ∷ codes "0 0" ∷ codes "2 0" ∷ [])) Order 3
unfolding digits
behind_class = at_line and_root to_two _ (lit≤ tt) (two_right 1 and_node _ _ (record { asked = refl; width = refl }) (record { asked = refl; width = refl })) refl
    (not_asked 2 zero_bit _ (lit< tt, refl) (λ e. omega (arith, ap asked_pattern e)) refl) refl

-- a text without LF begins with no line
abbrev lf_count : Text → ℕ
lf_count [] = 0
lf_count (byte ∷ text) = (if byte == 10 then 1 else 0) + lf_count text

lf_count-append : (text more : Text) → lf_count (text ++ more) ≡ lf_count text + lf_count more
lf_count-append [] more = omega arith
lf_count-append (byte ∷ text) more = omega (arith, lf_count-append text more)

no_lf : HasNoLine (codes "2 1")
no_lf pattern bits more begins =
    let same : lf_count (codes "2 1") ≡ lf_count (log_line pattern bits) + lf_count (10 ∷ more) = ap lf_count begins.1 ∙ lf_count-append (log_line pattern bits) (10 ∷ more) in
    omega (arith, same)

cut_line : WalkRefused and_plan (codes "1 0" ++ 10 ∷ codes "2 1") Syntax 2
unfolding digits
cut_line = at_line and_root first_zero _ (lit≤ tt) (one_right 1 and_node _ (record { asked = refl; width = refl })) refl (no_line (λ e. omega (arith, ap length e)) no_lf refl) refl

-- ---- a plan without a branch for some answers

abbrev two_classes : PlanNode
two_classes = ask 0 (branch (false ∷ false ∷ []) (leaf 0) (branch (true ∷ true ∷ []) (leaf 1) no_branch))

abbrev pub partial_plan : Plan
partial_plan = with_steps 2 1 2 two_classes

abbrev partial_root : HasNode partial_plan
partial_root = record { node = two_classes; steps_are = refl }

abbrev no_such_branch : Answer
no_such_branch = answer_with 0 (false ∷ true ∷ [])

nowhere : LeadsTo partial_plan (text_of_lines (codes "0 01" ∷ [])) outcome.Unknown
unfolding digits
nowhere = record { root = partial_root; answers = no_such_branch ∷ []; right = one_right 2 two_classes _ (record { asked = refl; width = refl }); text_is = refl; short = lit≤ tt; end_is = refl }

behind_nowhere : WalkRefused partial_plan (text_of_lines (codes "0 01" ∷ codes "0 01" ∷ [])) Order 2
unfolding digits
behind_nowhere = at_line partial_root (no_such_branch ∷ []) _ (lit≤ tt) (one_right 2 two_classes _ (record { asked = refl; width = refl })) refl
    (not_asked 0 (false ∷ true ∷ []) _ (lit< tt, refl) (λ e. omega (arith, ap asked_pattern e)) refl) refl

-- a plan that asks nothing
seventh_class : LeadsTo (with_steps 0 0 4294967295 (leaf 7)) [] (outcome.Class 7)
seventh_class = record { root = record { node = leaf 7; steps_are = refl }; answers = []; right = none_right 0 (leaf 7); text_is = refl; short = lit≤ tt; end_is = refl }

-- three positions show the same source, so they never show two ones and a zero at its 0
abbrev triple_root : HasNode triple_plan
triple_root = record { node = triple_node; steps_are = refl }

not_planned : LeadsTo triple_plan (text_of_lines (codes "0 110" ∷ [])) outcome.Unknown
unfolding digits
not_planned = record { root = triple_root; answers = answer_with 0 (three_bits true true false) ∷ []; right = one_right 3 triple_node _ (record { asked = refl; width = refl }); text_is = refl; short = lit≤ tt; end_is = refl }
