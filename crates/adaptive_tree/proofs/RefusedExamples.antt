-- Texts of plans that are refused, each made from that of the first example by a change of one line.
use Rattle.std.proofs.Common.{◌≡◌, ℕ, zero, suc, ◌-◌, ◌∙◌, ap, append-nil, refl, sym, lit<, lit≤, arith}
use Rattle.std.specs.Prelude.{true, List, [], ◌∷◌, ◌++◌, codes, length, map, take, drop, slice_set}
use Rattle.std.specs.Fmt.{digits}
use Rattle.std.specs.List.{list_all}
use Rattle.std.proofs.lemmas.List.{take-append-drop}
use Rattle.text_fields.specs.Fields.{Text}
use Rattle.adaptive_tree.specs.declared.fault.PlanKind.TheVariants.{Syntax, Order, Value}
use Rattle.adaptive_tree.specs.declared.steps.Step.{Step}
use Rattle.adaptive_tree.specs.declared.steps.Step.TheVariants.{Ask, On, Class}
use Rattle.adaptive_tree.specs.PlanNode.{PlanNode, Branches, leaf, ask, no_branch, branch, branch_answers, node_steps, branch_steps}
use Rattle.adaptive_tree.specs.PlanText.{PlanLine, head, step, end, plan_line, plan_lines}
use Rattle.adaptive_tree.specs.WellFormed.{BeginPlan, AreRightPlanLines, OpenAsk}
use Rattle.adaptive_tree.specs.Refusal.{PlanRefused, at_line, cut_short, no_line, misplaced, wrong, AreWhole}
use Rattle.std.proofs.lemmas.Bool.{false≢true}
use Rattle.adaptive_tree.proofs.NodeReading.{begins_true, one_node}
use Rattle.adaptive_tree.proofs.StepTests.{is_spelled, are_right, lines_are_right, steps_in, behind_steps, behind_first, steps_begin, end_begins, end_of_plan, no_node}
use Rattle.adaptive_tree.proofs.Examples.{text_of_lines, zero_bit, one_bit, with_steps, and_node, and_plan}

abbrev pub and_lines : List Text
and_lines = codes "adapt 1 1 4 5" ∷ codes "ask 1 2" ∷ codes "on 0" ∷ codes "ask 2 2" ∷ codes "on 0" ∷ codes "ask 3 2" ∷ codes "on 1" ∷ codes "class 0" ∷ codes "on 0" ∷ codes "class 4"
    ∷ codes "on 1" ∷ codes "class 3" ∷ codes "on 1" ∷ codes "ask 0 2" ∷ codes "on 1" ∷ codes "class 1" ∷ codes "on 0" ∷ codes "class 2" ∷ codes "end" ∷ []

-- the text with another line at a place
abbrev pub with_line_at : ℕ → Text → Text
with_line_at number line = text_of_lines (slice_set and_lines (number - 1) line)

-- the first lines of the plan
abbrev pub front : ℕ → List PlanLine
front count = take count (plan_lines and_plan)

begins_plan : (positions patterns classes : ℕ) (node : PlanNode) (count : ℕ) → BeginPlan (take count (plan_lines (with_steps positions patterns classes node)))
begins_plan positions patterns classes node count = record {
  plan = with_steps positions patterns classes node;
  node = record { node = node; steps_are = refl };
  more = drop count (plan_lines (with_steps positions patterns classes node));
  begins = sym (take-append-drop count (plan_lines (with_steps positions patterns classes node)));
}

right_front : (count : ℕ) → list_all is_spelled (front count) ≡ true → are_right [] (front count) ≡ true → AreRightPlanLines (front count)
right_front count spelled right = lines_are_right (front count) (begins_plan 1 4 5 and_node count) spelled right

-- ---- a wrong value

-- an ask of two classes
abbrev pub two_ways : ℕ → PlanNode
two_ways pattern = ask pattern (branch zero_bit (leaf 0) (branch one_bit (leaf 1) no_branch))

no_such_pattern : PlanRefused (with_line_at 2 (codes "ask 4 2")) Value 2
unfolding plan_line digits
no_such_pattern = at_line (front 1) _ (lit≤ tt) (right_front 1 refl refl) refl
    (wrong (step (Ask 4 2)) _ ((lit< tt, lit< tt), refl) (begins_plan 1 4 5 (two_ways 4) 2) (λ r. omega (arith, r.within)) refl) refl

-- the asks above a place
abbrev first_open : OpenAsk (Ask 1 2 ∷ On zero_bit ∷ [])
first_open = record { above = []; pattern = 1; branches = 2; since = On zero_bit ∷ []; stands = refl; unfinished = λ b. false≢true (begins_true (Ask 1 2 ∷ On zero_bit ∷ []) b) }

asked_again : PlanRefused (with_line_at 4 (codes "ask 1 2")) Value 4
unfolding plan_line digits
asked_again = at_line (front 3) _ (lit≤ tt) (right_front 3 refl refl) refl
    (wrong (step (Ask 1 2)) _ ((lit< tt, lit< tt), refl) (begins_plan 1 4 5 (ask 1 (branch zero_bit (two_ways 1) (branch one_bit (leaf 0) no_branch))) 4) (λ r. r.new (first_open, refl)) refl) refl

one_branch : PlanRefused (with_line_at 4 (codes "ask 2 1")) Value 4
unfolding plan_line digits
one_branch = at_line (front 3) _ (lit≤ tt) (right_front 3 refl refl) refl
    (wrong (step (Ask 2 1)) _ ((lit< tt, lit< tt), refl) (begins_plan 1 4 5 (ask 1 (branch zero_bit (ask 2 (branch zero_bit (leaf 0) no_branch)) (branch one_bit (leaf 0) no_branch))) 4) (λ r. omega (arith, r.several)) refl) refl

-- the node of the lines 6 to 10, and steps up to it
abbrev pub inner_node : PlanNode
inner_node = ask 3 (branch one_bit (leaf 0) (branch zero_bit (leaf 4) no_branch))

abbrev pub inner_steps : List Step
inner_steps = Ask 2 2 ∷ On zero_bit ∷ (node_steps inner_node ++ [])

abbrev second_open : OpenAsk (Ask 1 2 ∷ On zero_bit ∷ inner_steps)
second_open = record { above = Ask 1 2 ∷ On zero_bit ∷ []; pattern = 2; branches = 2; since = On zero_bit ∷ (node_steps inner_node ++ []); stands = refl; unfinished = λ b. false≢true (begins_true inner_steps b) }

same_answer : PlanRefused (with_line_at 11 (codes "on 0")) Value 11
unfolding plan_line digits
same_answer = at_line (front 10) _ (lit≤ tt) (right_front 10 refl refl) refl
    (wrong (step (On zero_bit)) _ (tt, refl)
    (begins_plan 1 4 5 (ask 1 (branch zero_bit (ask 2 (branch zero_bit inner_node (branch zero_bit (leaf 3) no_branch))) (branch one_bit (leaf 0) no_branch))) 11)
    (λ r. r.new (second_open, branch zero_bit inner_node no_branch, refl, (0, lit< tt, refl))) refl) refl

wrong_width : PlanRefused (with_line_at 3 (codes "on -")) Value 3
unfolding plan_line digits
wrong_width = at_line (front 2) _ (lit≤ tt) (right_front 2 refl refl) refl
    (wrong (step (On [])) _ (tt, refl) (begins_plan 1 4 5 (ask 1 (branch [] (leaf 0) (branch one_bit (leaf 1) no_branch))) 3) (λ r. omega (arith, r.width)) refl) refl

no_such_class : PlanRefused (with_line_at 8 (codes "class 5")) Value 8
unfolding plan_line digits
no_such_class = at_line (front 7) _ (lit≤ tt) (right_front 7 refl refl) refl
    (wrong (step (Class 5)) _ (lit< tt, refl)
    (begins_plan 1 4 5 (ask 1 (branch zero_bit (ask 2 (branch zero_bit (ask 3 (branch one_bit (leaf 5) (branch zero_bit (leaf 4) no_branch))) (branch one_bit (leaf 3) no_branch))) (branch one_bit (leaf 0) no_branch))) 8)
    (λ low. omega (arith, low)) refl) refl

-- ---- a line in a wrong place

node_for_branch : PlanRefused (with_line_at 3 (codes "class 0")) Order 3
unfolding plan_line digits
node_for_branch = at_line (front 2) _ (lit≤ tt) (right_front 2 refl refl) refl
    (misplaced (step (Class 0)) _ (lit< tt, refl) (λ b. no_node b.node.node _ (steps_begin 1 4 5 _ b) (λ n. refl)) refl) refl

branch_for_node : PlanRefused (with_line_at 14 (codes "on 1")) Order 14
unfolding plan_line digits
branch_for_node = at_line (front 13) _ (lit≤ tt) (right_front 13 refl refl) refl
    (misplaced (step (On one_bit)) _ (tt, refl) (λ b. no_node b.node.node _ (steps_begin 1 4 5 _ b) (λ n. refl)) refl) refl

third_is_none : ¬ BeginPlan (front 18 ++ step (On one_bit) ∷ [])
third_is_none b =
    let behind : [] ≡ On one_bit ∷ steps_in b.more = (one_node b.node.node and_node [] (On one_bit ∷ steps_in b.more) (append-nil (node_steps b.node.node) ∙ steps_begin 1 4 5 (behind_first (front 18) ++ step (On one_bit) ∷ []) b)).1 in
    omega (arith, ap length behind)

third_branch : PlanRefused (with_line_at 19 (codes "on 1")) Order 19
unfolding plan_line digits
third_branch = at_line (front 18) _ (lit≤ tt) (right_front 18 refl refl) refl
    (misplaced (step (On one_bit)) _ (tt, refl) third_is_none refl) refl

not_whole : ¬ AreWhole (front 18)
not_whole w =
    let behind : end ∷ [] ≡ [] = sym (end_of_plan w.plan.steps (end ∷ []) refl) ∙ ap (λ lines. behind_steps (behind_first lines)) w.lines_are in
    omega (arith, ap length behind)

no_end : PlanRefused (text_of_lines (take 18 and_lines)) Order 19
unfolding plan_line digits
no_end = at_line (front 18) [] (lit≤ tt) (right_front 18 refl refl) refl (cut_short refl not_whole refl) refl

behind_end : PlanRefused (text_of_lines (and_lines ++ codes "end" ∷ [])) Order 20
unfolding plan_line digits
behind_end = at_line (front 19) _ (lit≤ tt) (right_front 19 refl refl) refl (misplaced end [] (tt, refl) (λ b. omega (arith, ap length (end_begins 1 4 5 (behind_first (front 19) ++ end ∷ []) b))) refl) refl

empty_text : PlanRefused [] Order 1
empty_text = at_line [] [] (lit≤ tt) (lines_are_right [] (begins_plan 1 4 5 and_node 0) refl refl) refl (cut_short refl (λ w. omega (arith, ap length w.lines_are)) refl) refl

-- ---- no line of a plan

abbrev first_byte : Text → ℕ
first_byte [] = 0
first_byte (byte ∷ text) = byte

no_line_is_empty : (line : PlanLine) (more : Text) → 10 ∷ [] ≡ plan_line line ++ 10 ∷ more → ⊥
unfolding plan_line
no_line_is_empty (head positions patterns classes) more e = omega (arith, ap first_byte e)
no_line_is_empty (step (Ask pattern branches)) more e = omega (arith, ap first_byte e)
no_line_is_empty (step (On answer)) more e = omega (arith, ap first_byte e)
no_line_is_empty (step (Class class)) more e = omega (arith, ap first_byte e)
no_line_is_empty end more e = omega (arith, ap first_byte e)

no_line_behind : PlanRefused (text_of_lines (and_lines ++ [] ∷ [])) Syntax 20
unfolding plan_line digits
no_line_behind = at_line (front 19) _ (lit≤ tt) (right_front 19 refl refl) refl (no_line (λ e. omega (arith, ap length e)) (λ line more begins. no_line_is_empty line more begins.1) refl) refl

-- ---- more branches than there can be

-- the given number of branches, each with no bits
many : ℕ → Branches
many zero = no_branch
many (suc n) = branch [] (leaf 0) (many n)

length-many : (n : ℕ) → length (branch_answers (many n)) ≡ n
unfolding many
length-many zero = refl
length-many (suc n) = ap suc (length-many n)

-- the branches of the plan, and the given number of further ones
abbrev with_many : ℕ → PlanNode
with_many n = ask 1 (branch zero_bit (ask 2 (branch zero_bit inner_node (branch one_bit (leaf 3) no_branch)))
    (branch one_bit (ask 0 (branch one_bit (leaf 1) (branch zero_bit (leaf 2) no_branch))) (many n)))

abbrev many_front : ℕ → List PlanLine
many_front n = head 1 4 5 ∷ step (Ask 1 (suc (suc n))) ∷ drop 2 (front 18)

many_begin : (n : ℕ) → BeginPlan (many_front n)
many_begin n = record {
  plan = with_steps 1 4 5 (with_many n);
  node = record { node = with_many n; steps_are = refl };
  more = map step (branch_steps (many n)) ++ end ∷ [];
  begins = ap (λ k. head 1 4 5 ∷ step (Ask 1 (suc (suc k))) ∷ (drop 2 (front 18) ++ (map step (branch_steps (many n)) ++ end ∷ []))) (length-many n);
}

too_many_branches : PlanRefused (with_line_at 2 (codes "ask 1 4294967295")) Order 19
unfolding plan_line digits
too_many_branches = at_line (many_front 4294967293) _ (lit≤ tt) (lines_are_right (many_front 4294967293) (many_begin 4294967293) refl refl) refl
    (misplaced end _ (tt, refl) (λ b. no_node b.node.node _ (steps_begin 1 4 5 _ b) (λ n. refl)) refl) refl
