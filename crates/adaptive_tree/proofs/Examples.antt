-- Plans of three small circuits, and their texts.
use Rattle.std.proofs.Common.{◌≡◌, ℕ, refl, lit≤}
use Rattle.std.specs.Prelude.{Bool, true, false, List, [], ◌∷◌, ◌++◌, codes, flat_map}
use Rattle.std.specs.Fmt.{digits}
use Rattle.text_fields.specs.Fields.{Text}
use Rattle.adaptive_tree.specs.declared.steps.Plan.{Plan}
use Rattle.adaptive_tree.specs.PlanNode.{PlanNode, leaf, ask, no_branch, branch, node_steps, ask_count, depth_of}
use Rattle.adaptive_tree.specs.PlanText.{plan_lines, plan_text, plan_line}
use Rattle.adaptive_tree.specs.WellFormed.{IsWellFormed, IsTextOf}
use Rattle.adaptive_tree.proofs.StepTests.{lines_are_right}

abbrev pub text_of_lines : List Text → Text
text_of_lines lines = flat_map (λ line. line ++ 10 ∷ []) lines

-- an answer of one position
abbrev pub zero_bit : List Bool
zero_bit = false ∷ []

abbrev pub one_bit : List Bool
one_bit = true ∷ []

abbrev pub with_steps : ℕ → ℕ → ℕ → PlanNode → Plan
with_steps positions patterns classes node = record { positions = positions; patterns = patterns; classes = classes; steps = node_steps node }

-- ---- INPUT(a) INPUT(b) OUTPUT(z) z=AND(a,b), with the patterns 00, 10, 01 and 11

abbrev pub and_node : PlanNode
and_node =
    ask 1 (branch zero_bit (ask 2 (branch zero_bit (ask 3 (branch one_bit (leaf 0) (branch zero_bit (leaf 4) no_branch)))
    (branch one_bit (leaf 3) no_branch)))
    (branch one_bit (ask 0 (branch one_bit (leaf 1) (branch zero_bit (leaf 2) no_branch))) no_branch))

abbrev pub and_plan : Plan
and_plan = with_steps 1 4 5 and_node

abbrev pub and_text : Text
and_text = text_of_lines (codes "adapt 1 1 4 5" ∷ codes "ask 1 2" ∷ codes "on 0" ∷ codes "ask 2 2" ∷ codes "on 0" ∷ codes "ask 3 2" ∷ codes "on 1" ∷ codes "class 0" ∷ codes "on 0" ∷ codes "class 4"
    ∷ codes "on 1" ∷ codes "class 3" ∷ codes "on 1" ∷ codes "ask 0 2" ∷ codes "on 1" ∷ codes "class 1" ∷ codes "on 0" ∷ codes "class 2" ∷ codes "end" ∷ [])

and_text_is : plan_text and_plan ≡ and_text
unfolding plan_line digits
and_text_is = refl

and_counts : (ask_count and_plan.steps ≡ 4) × (depth_of and_node ≡ 3)
and_counts = (refl, refl)

and_well_formed : IsWellFormed and_plan
and_well_formed = record {
  node = record { node = and_node; steps_are = refl };
  lines = lines_are_right (plan_lines and_plan) (record { plan = and_plan; node = record { node = and_node; steps_are = refl }; more = []; begins = refl }) refl refl;
}

and_is_text : IsTextOf and_plan and_text
unfolding plan_line digits
and_is_text = record { well_formed = and_well_formed; text_is = refl; short = lit≤ tt }

-- ---- INPUT(a) OUTPUT(a) OUTPUT(a) OUTPUT(a), with the patterns 0 and 1

abbrev pub three_bits : Bool → Bool → Bool → List Bool
three_bits a b c = a ∷ b ∷ c ∷ []

abbrev pub none_set : List Bool
none_set = three_bits false false false

abbrev pub all_set : List Bool
all_set = three_bits true true true

abbrev pub triple_node : PlanNode
triple_node =
    ask 0 (branch none_set (ask 1 (branch all_set (leaf 0) (branch none_set (leaf 5) (branch (three_bits false true true) (leaf 6) (branch (three_bits true false true) (leaf 7) (branch (three_bits true true false) (leaf 8) no_branch))))))
    (branch all_set (leaf 1) (branch (three_bits true false false) (leaf 2) (branch (three_bits false true false) (leaf 3) (branch (three_bits false false true) (leaf 4) no_branch)))))

abbrev pub triple_plan : Plan
triple_plan = with_steps 3 2 9 triple_node

triple_counts : (ask_count triple_plan.steps ≡ 2) × (depth_of triple_node ≡ 2)
triple_counts = (refl, refl)

-- ---- the empty netlist

abbrev pub empty_plan : Plan
empty_plan = with_steps 0 0 1 (leaf 0)

empty_text_is : plan_text empty_plan ≡ text_of_lines (codes "adapt 1 0 0 1" ∷ codes "class 0" ∷ codes "end" ∷ [])
unfolding plan_line digits
empty_text_is = refl

empty_counts : (ask_count empty_plan.steps ≡ 0) × (depth_of (leaf 0) ≡ 0)
empty_counts = (refl, refl)
