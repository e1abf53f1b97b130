-- Tests of the rules of steps and lines: if one passes, the rule is met.
use Rattle.std.proofs.Common.{◌≡◌, ◌∙◌, ℕ, zero, suc, ◌<◌, ◌≤◌, refl, ap, sym, subst, arith, append_assoc, append-nil, length-append}
use Rattle.std.specs.Prelude.{◌^◌, is_some, Bool, true, false, not, ◌&&◌, ◌||◌, List, [], ◌∷◌, ◌++◌, length, map, take, Contains, slice_index_or, Option, None, Some, option_map, option_and_then, nat_lt, ◌==◌}
use Rattle.std.specs.List.{list_all, AllByRecursion}
use Rattle.std.proofs.lemmas.List.Elements.{All-from_recursion}
use Rattle.std.specs.Option.{option_map_or}
use Rattle.std.proofs.lemmas.Bool.{false≢true, false_from_ne_true, not-true, ltb-true, eqb-true}
use Rattle.std.proofs.lemmas.Bool.Decides.{nat_tests}
use Rattle.std.proofs.Math.Bool.{or-true}
use Rattle.dict_rows.proofs.EntryLemmas.{same_bits-Decides}
use Rattle.adaptive_tree.specs.declared.steps.Step.{Step}
use Rattle.adaptive_tree.specs.declared.steps.Step.TheVariants.{Ask, On, Class}
use Rattle.adaptive_tree.specs.declared.steps.Plan.{Plan}
use Rattle.adaptive_tree.specs.PlanNode.{PlanNode, Branches, no_branch, branch, branch_answers, node_steps, branch_steps, BeginsWithNode}
use Rattle.text_fields.specs.Fields.{IsNumber}
use Rattle.adaptive_tree.specs.PlanText.{PlanLine, head, step, end, HasPlanStepSpelling, HasPlanSpelling}
use Rattle.adaptive_tree.specs.Growth.{has_answer}
use Rattle.adaptive_tree.specs.WellFormed.{OpenAsk, IsAskedAbove, HasBranch, IsRightStep, IsRightPlanLine, plan_begun, line_at, BeginPlan, AreRightPlanLines}
use Rattle.adaptive_tree.proofs.NodeReading.{node_by, begins_node, begins_by, tallest, node_is_read, height_of, tallest_fits}

-- ---- asks above

-- whether these steps have an ask of a pattern whose node isn't whole
abbrev pub asked_above : List Step → ℕ → Bool
asked_above [] pattern = false
asked_above (On answer ∷ steps) pattern = asked_above steps pattern
asked_above (Class class ∷ steps) pattern = asked_above steps pattern
asked_above (Ask other branches ∷ steps) pattern = (not (begins_node (Ask other branches ∷ steps)) && other == pattern) || asked_above steps pattern

pub or_right : (a b : Bool) → b ≡ true → (a || b) ≡ true
or_right a b e = ap (λ x. a || x) e ∙ or-true a

pub or_left : (a b : Bool) → a ≡ true → (a || b) ≡ true
or_left a b e = ap (λ x. x || b) e

both : (a b : Bool) → a ≡ true → b ≡ true → (a && b) ≡ true
both a b e f = ap (λ x. x && b) e ∙ f

same_number : (n : ℕ) → (n == n) ≡ true
same_number n = grind (arith, nat_tests)

is_open : (steps : List Step) → ¬ BeginsWithNode steps → not (begins_node steps) ≡ true
is_open steps unfinished = ap not (false_from_ne_true (begins_node steps) (λ e. unfinished (begins_by steps e)))

asked_behind : (above : List Step) (pattern branches : ℕ) (since : List Step) → ¬ BeginsWithNode (Ask pattern branches ∷ since) → asked_above (above ++ Ask pattern branches ∷ since) pattern ≡ true
asked_behind [] pattern branches since unfinished = or_left _ (asked_above since pattern) (both _ _ (is_open (Ask pattern branches ∷ since) unfinished) (same_number pattern))
asked_behind (On answer ∷ above) pattern branches since unfinished = asked_behind above pattern branches since unfinished
asked_behind (Class class ∷ above) pattern branches since unfinished = asked_behind above pattern branches since unfinished
asked_behind (Ask other n ∷ above) pattern branches since unfinished = or_right _ (asked_above (above ++ Ask pattern branches ∷ since) pattern) (asked_behind above pattern branches since unfinished)

pub not_asked : (before : List Step) (pattern : ℕ) → asked_above before pattern ≡ false → ¬ IsAskedAbove before pattern
not_asked before pattern e asked =
    let o : OpenAsk before = asked.0 in
    let found : asked_above before o.pattern ≡ true = ap (λ steps. asked_above steps o.pattern) o.stands ∙ asked_behind o.above o.pattern o.branches o.since o.unfinished in
    false≢true (sym e ∙ (ap (asked_above before) (sym asked.1) ∙ found))

-- ---- branches of the last of them

-- the answers of steps that are whole branches
abbrev pub answers_by : (List Step → Option (PlanNode × List Step)) → ℕ → List Step → Option (List (List Bool))
answers_by read zero [] = Some []
answers_by read zero (s ∷ steps) = None
answers_by read (suc n) [] = Some []
answers_by read (suc n) (Ask pattern branches ∷ steps) = None
answers_by read (suc n) (Class class ∷ steps) = None
answers_by read (suc n) (On answer ∷ steps) = option_and_then (λ x. option_map (λ answers. answer ∷ answers) (answers_by read n x.1)) (read steps)

-- whether an ask whose node isn't whole has a branch for an answer
abbrev pub has_branch : List Step → List Bool → Bool
has_branch [] answer = false
has_branch (On other ∷ steps) answer = has_branch steps answer
has_branch (Class class ∷ steps) answer = has_branch steps answer
has_branch (Ask pattern branches ∷ steps) answer = (not (begins_node (Ask pattern branches ∷ steps)) && option_map_or (λ answers. has_answer answers answer) (answers_by (node_by (length steps)) (length steps) steps) false) || has_branch steps answer

pub answers_are : (branches : Branches) (fuel n : ℕ) → tallest branches ≤ fuel → length (branch_steps branches) ≤ n → answers_by (node_by fuel) n (branch_steps branches) ≡ Some (branch_answers branches)
answers_are no_branch fuel zero high long = refl
answers_are no_branch fuel (suc n) high long = refl
answers_are (branch answer node others) fuel zero high long = absurd (omega (arith, long))
answers_are (branch answer node others) fuel (suc n) high long =
    let shorter : length (branch_steps others) ≤ n = omega (arith, long, length-append (node_steps node) (branch_steps others)) in
    let read : node_by fuel (node_steps node ++ branch_steps others) ≡ Some (node, branch_steps others) = node_is_read node fuel (branch_steps others) (omega (arith, high)) in
    ap (option_and_then (λ (x : PlanNode × List Step). option_map (λ answers. answer ∷ answers) (answers_by (node_by fuel) n x.1))) read
    ∙ ap (option_map (λ answers. answer ∷ answers)) (answers_are others fuel n (omega (arith, high)) shorter)

pub among_at : (answers : List (List Bool)) (answer : List Bool) (k : ℕ) → k < length answers → slice_index_or answers k answer ≡ answer → has_answer answers answer ≡ true
among_at [] answer k low e = absurd (omega (arith, low))
among_at (first ∷ answers) answer zero low e = or_left _ (has_answer answers answer) ((same_bits-Decides answer first).1 (sym e))
among_at (first ∷ answers) answer (suc k) low e = or_right _ (has_answer answers answer) (among_at answers answer k (omega (arith, low)) e)

branch_behind : (above : List Step) (pattern n : ℕ) (branches : Branches) (answer : List Bool) → ¬ BeginsWithNode (Ask pattern n ∷ branch_steps branches) → Contains (branch_answers branches) answer → has_branch (above ++ Ask pattern n ∷ branch_steps branches) answer ≡ true
branch_behind [] pattern n branches answer unfinished among =
    let steps : List Step = branch_steps branches in
    let are : answers_by (node_by (length steps)) (length steps) steps ≡ Some (branch_answers branches) = answers_are branches (length steps) (length steps) (tallest_fits branches) (omega arith) in
    or_left _ (has_branch steps answer) (both _ _ (is_open (Ask pattern n ∷ steps) unfinished) (ap (λ o. option_map_or (λ answers. has_answer answers answer) o false) are ∙ among_at (branch_answers branches) answer among.0 among.1 among.2))
branch_behind (On other ∷ above) pattern n branches answer unfinished among = branch_behind above pattern n branches answer unfinished among
branch_behind (Class class ∷ above) pattern n branches answer unfinished among = branch_behind above pattern n branches answer unfinished among
branch_behind (Ask other m ∷ above) pattern n branches answer unfinished among = or_right _ (has_branch (above ++ Ask pattern n ∷ branch_steps branches) answer) (branch_behind above pattern n branches answer unfinished among)

pub no_branch_yet : (before : List Step) (answer : List Bool) → has_branch before answer ≡ false → ¬ HasBranch before answer
no_branch_yet before answer e has =
    let o : OpenAsk before = has.0 in
    let since : Ask o.pattern o.branches ∷ o.since ≡ Ask o.pattern o.branches ∷ branch_steps has.1 = ap (λ steps. Ask o.pattern o.branches ∷ steps) has.2 in
    let found : has_branch (o.above ++ Ask o.pattern o.branches ∷ branch_steps has.1) answer ≡ true
    = branch_behind o.above o.pattern o.branches has.1 answer (λ b. o.unfinished (subst BeginsWithNode (sym since) b)) has.3 in
    false≢true (sym e ∙ (ap (λ steps. has_branch steps answer) o.stands ∙ (ap (λ steps. has_branch (o.above ++ steps) answer) since ∙ found)))

-- ---- lines

abbrev pub is_right_step : Plan → Step → Bool
is_right_step begun (Ask pattern branches) = nat_lt pattern begun.patterns && not (asked_above begun.steps pattern) && nat_lt 1 branches
is_right_step begun (On answer) = length answer == begun.positions && not (has_branch begun.steps answer)
is_right_step begun (Class class) = nat_lt class begun.classes

abbrev pub is_right_line : List PlanLine → PlanLine → Bool
is_right_line before (head positions patterns classes) = true
is_right_line before (step s) = is_right_step (plan_begun before) s
is_right_line before end = true

pub left_true : (a b : Bool) → (a && b) ≡ true → a ≡ true
left_true true b e = refl
left_true false b e = e

pub right_true : (a b : Bool) → (a && b) ≡ true → b ≡ true
right_true true b e = e
right_true false b e = absurd (false≢true e)

pub right_step : (begun : Plan) (s : Step) → is_right_step begun s ≡ true → IsRightStep begun s
right_step begun (Ask pattern branches) e = record {
  within = ltb-true pattern begun.patterns (left_true _ _ (left_true _ (nat_lt 1 branches) e));
  new = not_asked begun.steps pattern (not-true _ (right_true (nat_lt pattern begun.patterns) _ (left_true _ (nat_lt 1 branches) e)));
  several = ltb-true 1 branches (right_true _ _ e);
}
right_step begun (On answer) e = record {
  width = eqb-true (length answer) begun.positions (left_true _ _ e);
  new = no_branch_yet begun.steps answer (not-true _ (right_true (length answer == begun.positions) _ e));
}
right_step begun (Class class) e = ltb-true class begun.classes e

pub right_line : (before : List PlanLine) (line : PlanLine) → is_right_line before line ≡ true → IsRightPlanLine before line
right_line before (head positions patterns classes) e = tt
right_line before (step s) e = right_step (plan_begun before) s e
right_line before end e = tt

-- whether each of the second lines is right after the first lines and those before it
abbrev pub are_right : List PlanLine → List PlanLine → Bool
are_right before [] = true
are_right before (line ∷ lines) = is_right_line before line && are_right (before ++ line ∷ []) lines

lines_from : (before lines : List PlanLine) → are_right before lines ≡ true → (at : ℕ) → at < length lines → IsRightPlanLine (before ++ take at lines) (line_at lines at)
lines_from before [] e at low = absurd (omega (arith, low))
lines_from before (line ∷ lines) e zero low = subst (λ front. IsRightPlanLine front line) (sym (append-nil before)) (right_line before line (left_true _ _ e))
lines_from before (line ∷ lines) e (suc at) low =
    subst (λ front. IsRightPlanLine front (line_at lines at)) (append_assoc before (line ∷ []) (take at lines))
    (lines_from (before ++ line ∷ []) lines (right_true (is_right_line before line) _ e) at (omega (arith, low)))

right_lines : (lines : List PlanLine) → are_right [] lines ≡ true → (at : ℕ) → at < length lines → IsRightPlanLine (take at lines) (line_at lines at)
right_lines lines e at low = lines_from [] lines e at low

-- ---- all of it for lines that are written out

abbrev pub is_number : ℕ → Bool
is_number n = nat_lt n (2 ^ 32)

abbrev pub is_spelled_step : Step → Bool
is_spelled_step (Ask pattern branches) = is_number pattern && is_number branches
is_spelled_step (On answer) = true
is_spelled_step (Class class) = is_number class

abbrev pub is_spelled : PlanLine → Bool
is_spelled (head positions patterns classes) = is_number positions && is_number patterns && is_number classes
is_spelled (step s) = is_spelled_step s
is_spelled end = true

number_below : (n : ℕ) → is_number n ≡ true → IsNumber n
number_below n e = ltb-true n (2 ^ 32) e

spelled_step : (s : Step) → is_spelled_step s ≡ true → HasPlanStepSpelling s
spelled_step (Ask pattern branches) e = (number_below pattern (left_true _ _ e), number_below branches (right_true (is_number pattern) _ e))
spelled_step (On answer) e = tt
spelled_step (Class class) e = number_below class e

pub spelled_line : (line : PlanLine) → is_spelled line ≡ true → HasPlanSpelling line
spelled_line (head positions patterns classes) e =
    let front : (is_number positions && is_number patterns) ≡ true = left_true (is_number positions && is_number patterns) (is_number classes) e in
    (number_below positions (left_true _ _ front), number_below patterns (right_true (is_number positions) _ front), number_below classes (right_true (is_number positions && is_number patterns) _ e))
spelled_line (step s) e = spelled_step s e
spelled_line end e = tt

spelled_from : (lines : List PlanLine) → list_all is_spelled lines ≡ true → AllByRecursion HasPlanSpelling lines
spelled_from [] e = tt
spelled_from (line ∷ lines) e = (spelled_line line (left_true _ _ e), spelled_from lines (right_true (is_spelled line) _ e))

pub lines_are_right : (lines : List PlanLine) → BeginPlan lines → list_all is_spelled lines ≡ true → are_right [] lines ≡ true → AreRightPlanLines lines
lines_are_right lines places spelled right = record { spelled = All-from_recursion HasPlanSpelling lines (spelled_from lines spelled); places = places; right = right_lines lines right }

-- ---- lines that no plan has

-- the steps before the first other line
abbrev pub steps_in : List PlanLine → List Step
steps_in [] = []
steps_in (head positions patterns classes ∷ lines) = []
steps_in (step s ∷ lines) = s ∷ steps_in lines
steps_in (end ∷ lines) = []

-- the lines after the steps that lines begin with
abbrev pub behind_steps : List PlanLine → List PlanLine
behind_steps [] = []
behind_steps (head positions patterns classes ∷ lines) = head positions patterns classes ∷ lines
behind_steps (step s ∷ lines) = behind_steps lines
behind_steps (end ∷ lines) = end ∷ lines

abbrev pub behind_first : List PlanLine → List PlanLine
behind_first [] = []
behind_first (line ∷ lines) = lines

pub steps_of_plan : (steps : List Step) (lines : List PlanLine) → steps_in lines ≡ [] → steps_in (map step steps ++ lines) ≡ steps
steps_of_plan [] lines e = e
steps_of_plan (s ∷ steps) lines e = ap (λ rest. s ∷ rest) (steps_of_plan steps lines e)

pub end_of_plan : (steps : List Step) (lines : List PlanLine) → behind_steps lines ≡ lines → behind_steps (map step steps ++ lines) ≡ lines
end_of_plan [] lines e = e
end_of_plan (s ∷ steps) lines e = end_of_plan steps lines e

-- the steps of a plan that begins so, and what comes after them
pub steps_begin : (positions patterns classes : ℕ) (lines : List PlanLine) (b : BeginPlan (head positions patterns classes ∷ lines)) → node_steps b.node.node ≡ steps_in (lines ++ b.more)
steps_begin positions patterns classes lines b =
    sym b.node.steps_are ∙ (sym (steps_of_plan b.plan.steps (end ∷ []) refl) ∙ ap (λ all. steps_in (behind_first all)) b.begins)

pub end_begins : (positions patterns classes : ℕ) (lines : List PlanLine) (b : BeginPlan (head positions patterns classes ∷ lines)) → end ∷ [] ≡ behind_steps (lines ++ b.more)
end_begins positions patterns classes lines b =
    sym (end_of_plan b.plan.steps (end ∷ []) refl) ∙ ap (λ all. behind_steps (behind_first all)) b.begins

pub some_none : {A : Type 0} (x : A) → Some x ≡ None → ⊥
some_none x e = false≢true (sym (ap is_some e))

-- if no node is read, there is none; a node of the steps at hand is at most five steps down
pub no_node : (node : PlanNode) (steps : List Step) → node_steps node ≡ steps → ((n : ℕ) → node_by (suc (suc (suc (suc (suc n))))) steps ≡ None) → ⊥
no_node node steps are none =
    let n : ℕ = height_of node in
    let read : node_by (suc (suc (suc (suc (suc n))))) (node_steps node ++ []) ≡ Some (node, []) = node_is_read node (suc (suc (suc (suc (suc n))))) [] (omega arith) in
    some_none (node, []) (sym read ∙ (ap (node_by (suc (suc (suc (suc (suc n)))))) (append-nil (node_steps node) ∙ are) ∙ none n))
