-- A log of answers leads to at most one outcome, or is refused for one rule at one line, and never both.
use Rattle.std.proofs.Common.{◌≡◌, ◌∙◌, ℕ, suc, ◌+◌, ◌<◌, ◌^◌, refl, ap, sym, subst, arith, append-nil, length-append}
use Rattle.std.specs.Prelude.{Bool, true, false, if◌then◌else◌, List, [], ◌∷◌, ◌++◌, length, take, map, fold, Option, None, Some, IfSome, option_and_then}
use Rattle.std.specs.List.{AllByRecursion}
use Rattle.std.proofs.lemmas.List.Elements.{All-from_get_or, recursion_from_All}
use Rattle.net_model.specs.ClassTable.{same_bits}
use Rattle.diagnose.specs.declared.fault.LogKind.{LogKind}
use Rattle.text_fields.specs.Fields.{Text}
use Rattle.diagnose.specs.LogText.{log_line, BeginsWithLine}
use Rattle.text_fields.proofs.Cuts.{not_empty}
use Rattle.diagnose.proofs.LogLemmas.{line_once}
use Rattle.adaptive_tree.specs.declared.steps.Step.{Step}
use Rattle.adaptive_tree.specs.declared.steps.Plan.{Plan}
use Rattle.adaptive_tree.specs.declared.outcome.Outcome.{Outcome}
use Rattle.adaptive_tree.specs.declared.outcome.Outcome.TheVariants as outcome
use Rattle.adaptive_tree.specs.PlanNode.{PlanNode, Branches, HasNode, leaf, ask, no_branch, branch, node_steps, branch_steps}
use Rattle.adaptive_tree.specs.Walk.{branch_for, next_node, outcome_at}
use Rattle.adaptive_tree.specs.PlanText.{step, end, HasPlanStepSpelling, HasPlanSpelling, plan_lines}
use Rattle.adaptive_tree.specs.WellFormed.{IsWellFormed}
use Rattle.adaptive_tree.specs.AnswerLog.{Answer, IsAsked, IsRightAnswer, AreRightAnswers, log_answer_at, no_answer, outcome_after, walk_text, AnswerRefused, no_line, not_asked, wrong_width, too_long, at_line}
use Rattle.adaptive_tree.specs.Laws.{OneOutcome, RefusedWalkIsWrong, OneWalkRefusal}
use Rattle.adaptive_tree.proofs.NodeReading.{one_node}
use Rattle.adaptive_tree.proofs.TextLists.{Compare, compare, same, shorter, longer, text_once}

-- ---- patterns that are asked can be written

abbrev IsSpelled : PlanNode → Type 0
IsSpelled node = AllByRecursion HasPlanStepSpelling (node_steps node)

front_all : (P : Step → Type 0) (xs ys : List Step) → AllByRecursion P (xs ++ ys) → AllByRecursion P xs
front_all P [] ys all = tt
front_all P (x ∷ xs) ys all = (all.0, front_all P xs ys all.1)

back_all : (P : Step → Type 0) (xs ys : List Step) → AllByRecursion P (xs ++ ys) → AllByRecursion P ys
back_all P [] ys all = all
back_all P (x ∷ xs) ys all = back_all P xs ys all.1

branch_spelled : (bits : List Bool) (branches : Branches) → AllByRecursion HasPlanStepSpelling (branch_steps branches) → IfSome (branch_for bits branches) IsSpelled
branch_spelled bits no_branch all = tt
branch_spelled bits (branch answer node others) all =
    by_test (same_bits answer bits) (front_all HasPlanStepSpelling (node_steps node) (branch_steps others) all.1) (branch_spelled bits others (back_all HasPlanStepSpelling (node_steps node) (branch_steps others) all.1))
  where
    by_test : (b : Bool) → IsSpelled node → IfSome (branch_for bits others) IsSpelled → IfSome (if b then Some node else branch_for bits others) IsSpelled
    by_test true here rest = here
    by_test false here rest = rest

next_spelled : (bits : List Bool) (o : Option PlanNode) → IfSome o IsSpelled → IfSome (option_and_then (next_node bits) o) IsSpelled
next_spelled bits None is = tt
next_spelled bits (Some (leaf class)) is = tt
next_spelled bits (Some (ask pattern branches)) is = branch_spelled bits branches is.1

after_spelled : (answers : List (List Bool)) (o : Option PlanNode) → IfSome o IsSpelled → IfSome (fold (λ node bits. option_and_then (next_node bits) node) o answers) IsSpelled
after_spelled [] o is = is
after_spelled (bits ∷ answers) o is = after_spelled answers (option_and_then (next_node bits) o) (next_spelled bits o is)

abbrev asked_number : Outcome → ℕ
asked_number (outcome.Class class) = 0
asked_number (outcome.Ask pattern) = suc pattern
asked_number outcome.Unknown = 0

asked_spelled : (o : Option PlanNode) (pattern : ℕ) → IfSome o IsSpelled → outcome_at o ≡ outcome.Ask pattern → pattern < 2 ^ 32
asked_spelled None pattern is e = absurd (omega (arith, ap asked_number e))
asked_spelled (Some (leaf class)) pattern is e = absurd (omega (arith, ap asked_number e))
asked_spelled (Some (ask other branches)) pattern is e = omega (arith, ap asked_number e, is.0.0)

abbrev CanBeWritten : Answer → Type 0
CanBeWritten answer = answer.pattern < 2 ^ 32

right_written : (positions : ℕ) (node : PlanNode) (answers : List Answer) → IsSpelled node → AreRightAnswers positions node answers → AllByRecursion CanBeWritten answers
right_written positions node answers is right =
    recursion_from_All CanBeWritten answers (All-from_get_or CanBeWritten answers no_answer (λ at low.
    asked_spelled (fold (λ n bits. option_and_then (next_node bits) n) (Some node) (map (λ answer. answer.bits) (take at answers))) (log_answer_at answers at).pattern
    (after_spelled (map (λ answer. answer.bits) (take at answers)) (Some node) is) (right at low).asked))

mapped_steps : (steps : List Step) → AllByRecursion HasPlanSpelling (map step steps ++ end ∷ []) → AllByRecursion HasPlanStepSpelling steps
mapped_steps [] all = tt
mapped_steps (s ∷ steps) all = (all.0, mapped_steps steps all.1)

root_spelled : (plan : Plan) → IsWellFormed plan → (root : HasNode plan) → IsSpelled root.node
root_spelled plan formed root =
    let lines : AllByRecursion HasPlanSpelling (plan_lines plan) = recursion_from_All HasPlanSpelling (plan_lines plan) formed.lines.spelled in
    subst (AllByRecursion HasPlanStepSpelling) root.steps_are (mapped_steps plan.steps lines.1)

same_root : (plan : Plan) (root other : HasNode plan) → root.node ≡ other.node
same_root plan root other = (one_node root.node other.node [] [] (ap (λ steps. steps ++ []) (sym root.steps_are ∙ other.steps_are))).0

-- ---- lines of answers

abbrev answer_line : Answer → Text
answer_line answer = log_line answer.pattern answer.bits

answer_with : ℕ → List Bool → Answer
answer_with pattern bits = record { pattern = pattern; bits = bits }

answer_once : (x y : Answer) (s t : Text) → CanBeWritten x → CanBeWritten y → answer_line x ++ 10 ∷ s ≡ answer_line y ++ 10 ∷ t → (x ≡ y) × (s ≡ t)
unfolding answer_with
answer_once x y s t one two e =
    let parts : (x.pattern ≡ y.pattern) × ((x.bits ≡ y.bits) × (s ≡ t)) = line_once x.pattern y.pattern x.bits y.bits s t one two e in
    (ap (λ n. answer_with n x.bits) parts.0 ∙ ap (answer_with y.pattern) parts.1.0, parts.1.1)

taken : (before later : List Answer) → take (length before) (before ++ later) ≡ before
taken [] later = refl
taken (x ∷ before) later = ap (λ rest. x ∷ rest) (taken before later)

found : (before : List Answer) (answer : Answer) (later : List Answer) → log_answer_at (before ++ answer ∷ later) (length before) ≡ answer
found [] answer later = refl
found (x ∷ before) answer later = found before answer later

module _ (positions : ℕ) (node : PlanNode) where
  right_there : (before : List Answer) (answer : Answer) (later : List Answer) → AreRightAnswers positions node (before ++ answer ∷ later) → IsRightAnswer positions node before answer
  right_there before answer later right =
      let low : length before < length (before ++ answer ∷ later) = omega (arith, length-append before (answer ∷ later)) in
      subst (λ front. IsRightAnswer positions node front answer) (taken before (answer ∷ later))
      (subst (IsRightAnswer positions node (take (length before) (before ++ answer ∷ later))) (found before answer later) (right (length before) low))

  not_refused : (before : List Answer) (rest : Text) (kind : LogKind) (answer : Answer) (later : List Answer) (more : Text) → AreRightAnswers positions node (before ++ answer ∷ later) → CanBeWritten answer → rest ≡ answer_line answer ++ 10 ∷ more
      → AnswerRefused positions node before rest kind → ⊥
  not_refused before rest kind answer later more right written e (no_line some none syntax) = none answer.pattern answer.bits more (written, e)
  not_refused before rest kind answer later more right written e (not_asked pattern bits tail begins other order) =
      let parts : (answer.pattern ≡ pattern) × ((answer.bits ≡ bits) × (more ≡ tail)) = line_once answer.pattern pattern answer.bits bits more tail written begins.0 (sym e ∙ begins.1) in
      other (subst (IsAsked node before) parts.0 (right_there before answer later right).asked)
  not_refused before rest kind answer later more right written e (wrong_width pattern bits tail begins is wide width) =
      let parts : (answer.pattern ≡ pattern) × ((answer.bits ≡ bits) × (more ≡ tail)) = line_once answer.pattern pattern answer.bits bits more tail written begins.0 (sym e ∙ begins.1) in
      wide (ap length (sym parts.1.0) ∙ (right_there before answer later right).width)

  no_start : (rest : Text) (pattern : ℕ) (bits : List Bool) (more : Text) → BeginsWithLine rest pattern bits more → rest ≡ [] → ⊥
  no_start rest pattern bits more begins none = not_empty (log_line pattern bits) more 10 (sym begins.1 ∙ none)

  nothing_refused : (before : List Answer) (rest : Text) (kind : LogKind) → rest ≡ [] → AnswerRefused positions node before rest kind → ⊥
  nothing_refused before rest kind none (no_line some without syntax) = some none
  nothing_refused before rest kind none (not_asked pattern bits more begins other order) = no_start rest pattern bits more begins none
  nothing_refused before rest kind none (wrong_width pattern bits more begins is wide width) = no_start rest pattern bits more begins none

  rest_once : (before : List Answer) (rest : Text) (kind other : LogKind) → AnswerRefused positions node before rest kind → AnswerRefused positions node before rest other → kind ≡ other
  rest_once before rest kind other (no_line some none k) (no_line some' none' o) = k ∙ sym o
  rest_once before rest kind other (no_line some none k) (not_asked p b m begins fails o) = absurd (none p b m begins)
  rest_once before rest kind other (no_line some none k) (wrong_width p b m begins is wide o) = absurd (none p b m begins)
  rest_once before rest kind other (not_asked p b m begins fails k) (no_line some none o) = absurd (none p b m begins)
  rest_once before rest kind other (not_asked p b m begins fails k) (not_asked q c n begins' fails' o) = k ∙ sym o
  rest_once before rest kind other (not_asked p b m begins fails k) (wrong_width q c n begins' is wide o) =
      let parts : (q ≡ p) × ((c ≡ b) × (n ≡ m)) = line_once q p c b n m begins'.0 begins.0 (sym begins'.1 ∙ begins.1) in
      absurd (fails (subst (IsAsked node before) parts.0 is))
  rest_once before rest kind other (wrong_width p b m begins is wide k) (no_line some none o) = absurd (none p b m begins)
  rest_once before rest kind other (wrong_width p b m begins is wide k) (not_asked q c n begins' fails o) =
      let parts : (p ≡ q) × ((b ≡ c) × (m ≡ n)) = line_once p q b c m n begins.0 begins'.0 (sym begins.1 ∙ begins'.1) in
      absurd (fails (subst (IsAsked node before) parts.0 is))
  rest_once before rest kind other (wrong_width p b m begins is wide k) (wrong_width q c n begins' is' wide' o) = k ∙ sym o

  rules_once : (before others : List Answer) (rest more : Text) (kind other : LogKind) (line number : ℕ) → AreRightAnswers positions node before → AreRightAnswers positions node others → AnswerRefused positions node before rest kind → AnswerRefused positions node others more other
      → line ≡ length before + 1 → number ≡ length others + 1 → Compare answer_line CanBeWritten answer_once before others rest more → (kind ≡ other) × (line ≡ number)
  rules_once before others rest more kind other line number one two refused refused' l n (same e f) =
      (rest_once others more kind other (subst (λ text. AnswerRefused positions node others text kind) f (subst (λ answers. AnswerRefused positions node answers rest kind) e refused)) refused', omega (arith, l, n, ap length e))
  rules_once before others rest more kind other line number one two refused refused' l n (shorter next later e written f) =
      absurd (not_refused before rest kind next later (walk_text later ++ more) (subst (AreRightAnswers positions node) e two) written f refused)
  rules_once before others rest more kind other line number one two refused refused' l n (longer next later e written f) =
      absurd (not_refused others more other next later (walk_text later ++ rest) (subst (AreRightAnswers positions node) e one) written f refused')

  by_compare : (before answers : List Answer) (rest : Text) (kind : LogKind) → AreRightAnswers positions node answers → AnswerRefused positions node before rest kind → Compare answer_line CanBeWritten answer_once before answers rest [] → ⊥
  by_compare before answers rest kind right refused (same e f) = nothing_refused before rest kind f refused
  by_compare before answers rest kind right refused (shorter next later e written f) = not_refused before rest kind next later (walk_text later ++ []) (subst (AreRightAnswers positions node) e right) written f refused
  by_compare before answers rest kind right refused (longer next later e written f) = not_empty (answer_line next) (walk_text later ++ rest) 10 (sym f)

-- ---- the laws

pub one_walk_refusal : OneWalkRefusal
one_walk_refusal plan text kind other line number formed (too_long long k l) (too_long long' o n) = (k ∙ sym o, l ∙ sym n)
one_walk_refusal plan text kind other line number formed (too_long long k l) (at_line root before rest short right is refused n) = absurd (omega (arith, long, short))
one_walk_refusal plan text kind other line number formed (at_line root before rest short right is refused l) (too_long long o n) = absurd (omega (arith, long, short))
one_walk_refusal plan text kind other line number formed (at_line root before rest short right is refused l) (at_line root' others more short' right' is' refused' n) =
    let node : PlanNode = root.node in
    let back : root'.node ≡ node = same_root plan root' root in
    let right_too : AreRightAnswers plan.positions node others = subst (λ x. AreRightAnswers plan.positions x others) back right' in
    rules_once plan.positions node before others rest more kind other line number right right_too refused (subst (λ x. AnswerRefused plan.positions x others more other) back refused') l n
    (compare answer_line CanBeWritten answer_once before others rest more (right_written plan.positions node before (root_spelled plan formed root) right) (right_written plan.positions node others (root_spelled plan formed root) right_too) (sym is ∙ is'))

pub refused_walk_wrong : RefusedWalkIsWrong
refused_walk_wrong plan text goal kind line formed (too_long long k l) leads = omega (arith, long, leads.short)
refused_walk_wrong plan text goal kind line formed (at_line root before rest short right is refused l) leads =
    let node : PlanNode = root.node in
    let right_too : AreRightAnswers plan.positions node leads.answers = subst (λ x. AreRightAnswers plan.positions x leads.answers) (same_root plan leads.root root) leads.right in
    by_compare plan.positions node before leads.answers rest kind right_too refused
    (compare answer_line CanBeWritten answer_once before leads.answers rest [] (right_written plan.positions node before (root_spelled plan formed root) right) (right_written plan.positions node leads.answers (root_spelled plan formed root) right_too)
    (sym is ∙ (leads.text_is ∙ sym (append-nil (walk_text leads.answers)))))

pub one_outcome : OneOutcome
one_outcome plan text goal other formed one two =
    let answers : one.answers ≡ two.answers = text_once answer_line CanBeWritten answer_once one.answers two.answers
    (right_written plan.positions one.root.node one.answers (root_spelled plan formed one.root) one.right) (right_written plan.positions two.root.node two.answers (root_spelled plan formed two.root) two.right) (sym one.text_is ∙ two.text_is) in
    one.end_is ∙ (ap (λ node. outcome_after node one.answers) (same_root plan one.root two.root) ∙ (ap (outcome_after two.root.node) answers ∙ sym two.end_is))
