-- The plan of a table is well formed and short, and leads each number to its class.
use Rattle.std.proofs.Common.{◌≡◌, ◌≢◌, ◌∙◌, ℕ, zero, suc, ◌+◌, ◌<◌, ◌≤◌, refl, ap, sym, subst, arith, cond, inl, inr}
use Rattle.std.specs.Prelude.{Bool, true, false, not, List, [], ◌∷◌, ◌++◌, length, map, ◌⊎◌, Contains}
use Rattle.std.specs.List.{range_with_len, AllByRecursion}
use Rattle.std.proofs.lemmas.Bool.{false≢true}
use Rattle.std.proofs.lemmas.List.Elements.{All-from_recursion}
use Rattle.net_model.specs.ClassTable.{ClassTable, class_count, class_at, representative}
use Rattle.class_refine.proofs.Refined.{representative-member}
use Rattle.dict_rows.specs.AnswerTable.{Answers}
use Rattle.dict_rows.proofs.EntryLemmas.{same_bits-Decides}
use Rattle.adaptive_tree.specs.declared.steps.Step.{Step}
use Rattle.adaptive_tree.specs.declared.steps.Plan.{Plan}
use Rattle.adaptive_tree.specs.PlanNode.{PlanNode, Branches, HasNode, leaf, ask, no_branch, branch, node_steps, branch_steps, ask_count, depth_of}
use Rattle.adaptive_planner.specs.Planned.{IsPlanned, ArePlanned, IsPlan, parted_pairs, class_answer, answer_alike, alike_with, unlike}
use Rattle.adaptive_tree.specs.PlanText.{step, end, plan_lines, HasPlanStepSpelling, HasPlanSpelling}
use Rattle.adaptive_tree.specs.WellFormed.{IsWellFormed}
use Rattle.adaptive_tree.specs.RightNode.{IsRightNode, AreRightBranches}
use Rattle.adaptive_planner.specs.Laws.{CanBePlanned, PlansAreGood}
use Rattle.adaptive_tree.proofs.NodeReading.{one_node}
use Rattle.adaptive_planner.proofs.OnePlan.{two_branches, few_asks, asks_and_branches}
use Rattle.adaptive_planner.proofs.Depth.{some_parted, alike_parted, parted_filter, count_filter, short_ways}
use Rattle.adaptive_planner.proofs.SomePlan.{filter_all, range_all, range-length, parts_add}
use Rattle.adaptive_planner.proofs.Home.{leads_home}
use Rattle.adaptive_tree.proofs.RightTrees.{right_trees, in_first_or_later}

-- ---- lists

all_both : {A : Type 0} (P : A → Type 0) (xs ys : List A) → AllByRecursion P xs → AllByRecursion P ys → AllByRecursion P (xs ++ ys)
all_both P [] ys one two = two
all_both P (x ∷ xs) ys one two = (one.0, all_both P xs ys one.1 two)

in_front_or_last : {A : Type 0} (xs : List A) (x y : A) → Contains (xs ++ x ∷ []) y → Contains xs y ⊎ (x ≡ y)
in_front_or_last [] x y (zero, low, e) = inr e
in_front_or_last [] x y (suc k, low, e) = absurd (omega (arith, low))
in_front_or_last (z ∷ xs) x y (zero, low, e) = inl (0, omega arith, e)
in_front_or_last (z ∷ xs) x y (suc k, low, e) = later (in_front_or_last xs x y (k, omega (arith, low), e))
  where
    later : Contains xs y ⊎ (x ≡ y) → Contains (z ∷ xs) y ⊎ (x ≡ y)
    later (inl among) = inl (suc among.0, omega (arith, among.1), among.2)
    later (inr same) = inr same

module _ (t : ClassTable) (table : Answers) (can : CanBePlanned t table) (plan : Plan) (is : IsPlan t table plan) where
  abbrev AreBelow : List ℕ → Type 0
  AreBelow classes = AllByRecursion (λ c. c < class_count t) classes

  -- no pattern that is asked above splits the set
  abbrev NonePart : List ℕ → List ℕ → Type 0
  NonePart above classes = (pattern : ℕ) → Contains above pattern → parted_pairs t table pattern classes ≡ 0

  -- no class of the set gives one of the answers
  abbrev NoneGive : ℕ → List (List Bool) → List ℕ → Type 0
  NoneGive pattern answers classes = (answer : List Bool) → Contains answers answer → AllByRecursion (λ c. class_answer t table pattern c ≢ answer) classes

  none_part_alike : (above : List ℕ) (pattern lowest : ℕ) (classes : List ℕ) → NonePart above (lowest ∷ classes) → NonePart (pattern ∷ above) (lowest ∷ alike_with t table pattern lowest classes)
  none_part_alike above pattern lowest classes none other among = by_case (in_first_or_later pattern above other among)
    where
      by_case : (pattern ≡ other) ⊎ Contains above other → parted_pairs t table other (lowest ∷ alike_with t table pattern lowest classes) ≡ 0
      by_case (inl same) = subst (λ p. parted_pairs t table p (lowest ∷ alike_with t table pattern lowest classes) ≡ 0) same (alike_parted t table pattern lowest classes)
      by_case (inr rest) =
          let whole : parted_pairs t table other (lowest ∷ classes) ≡ 0 = none other rest in
          omega (arith, whole, parted_filter t table other (answer_alike t table pattern lowest) classes, count_filter (λ x. not (answer_alike t table other lowest x)) (answer_alike t table pattern lowest) classes)

  none_part_unlike : (above : List ℕ) (pattern lowest : ℕ) (classes : List ℕ) → NonePart above (lowest ∷ classes) → NonePart above (unlike t table pattern lowest classes)
  none_part_unlike above pattern lowest classes none other among =
      let whole : parted_pairs t table other (lowest ∷ classes) ≡ 0 = none other among in
      omega (arith, whole, parted_filter t table other (λ x. not (answer_alike t table pattern lowest x)) classes)

  unlike_answers : (pattern lowest : ℕ) (classes : List ℕ) → AllByRecursion (λ c. class_answer t table pattern c ≢ class_answer t table pattern lowest) (unlike t table pattern lowest classes)
  unlike_answers pattern lowest [] = tt
  unlike_answers pattern lowest (x ∷ classes) = by_test (answer_alike t table pattern lowest x) refl (unlike_answers pattern lowest classes)
    where
      by_test : (b : Bool) → answer_alike t table pattern lowest x ≡ b → AllByRecursion (λ c. class_answer t table pattern c ≢ class_answer t table pattern lowest) (unlike t table pattern lowest classes)
          → AllByRecursion (λ c. class_answer t table pattern c ≢ class_answer t table pattern lowest) (cond (not b) (x ∷ unlike t table pattern lowest classes) (unlike t table pattern lowest classes))
      by_test true alike rest = rest
      by_test false other rest = ((λ same. false≢true (sym other ∙ (same_bits-Decides (class_answer t table pattern lowest) (class_answer t table pattern x)).1 (sym same))), rest)

  none_give_unlike : (pattern lowest : ℕ) (before : List (List Bool)) (classes : List ℕ) → NoneGive pattern before (lowest ∷ classes) → NoneGive pattern (before ++ class_answer t table pattern lowest ∷ []) (unlike t table pattern lowest classes)
  none_give_unlike pattern lowest before classes none answer among = by_case (in_front_or_last before (class_answer t table pattern lowest) answer among)
    where
      by_case : Contains before answer ⊎ (class_answer t table pattern lowest ≡ answer) → AllByRecursion (λ c. class_answer t table pattern c ≢ answer) (unlike t table pattern lowest classes)
      by_case (inl front) = filter_all (λ c. class_answer t table pattern c ≢ answer) (λ other. not (answer_alike t table pattern lowest other)) classes (none answer front).1
      by_case (inr same) = subst (λ a. AllByRecursion (λ c. class_answer t table pattern c ≢ a) (unlike t table pattern lowest classes)) same (unlike_answers pattern lowest classes)

  answer_width : (pattern class : ℕ) → pattern < length table.rows → class < class_count t → length (class_answer t table pattern class) ≡ plan.positions
  answer_width pattern class within low =
      let lead : (representative t class < length t.class_of) × (class_at t (representative t class) ≡ class) = representative-member t can.whole class low in
      can.table_is.positions pattern (representative t class) within (omega (arith, lead.0, can.apart.numbers)) ∙ sym is.positions_are

  mutual
    planned_right : (node : PlanNode) (classes : List ℕ) (above : List ℕ) → IsPlanned t table classes node → AreBelow classes → NonePart above classes → IsRightNode plan above node
    planned_right (leaf class) classes above planned below none =
        let one : AreBelow (class ∷ []) = subst AreBelow planned below in
        omega (arith, one.0, is.classes_are)
    planned_right (ask pattern branches) classes above planned below none = (
      omega (arith, planned.1.within, is.patterns_are),
      (λ among. omega (arith, none pattern among, some_parted t table pattern classes branches planned)),
      two_branches t table pattern classes branches planned,
      planned_branches branches pattern classes above [] planned.2 planned.1.within below none (λ answer among. absurd (omega (arith, among.1))),
    )

    planned_branches : (branches : Branches) (pattern : ℕ) (classes above : List ℕ) (before : List (List Bool)) → ArePlanned t table pattern classes branches → pattern < length table.rows → AreBelow classes → NonePart above classes
        → NoneGive pattern before classes → AreRightBranches plan (pattern ∷ above) before branches
    planned_branches no_branch pattern classes above before planned within below none given = tt
    planned_branches (branch answer node others) pattern [] above before planned within below none given = absurd planned
    planned_branches (branch answer node others) pattern (lowest ∷ classes) above before planned within below none given = (
      ap length planned.0 ∙ answer_width pattern lowest within below.0,
      (λ among. (given answer among).0 (sym planned.0)),
      planned_right node (lowest ∷ alike_with t table pattern lowest classes) (pattern ∷ above) planned.1 (below.0, filter_all (λ c. c < class_count t) (answer_alike t table pattern lowest) classes below.1) (none_part_alike above pattern lowest classes none),
      planned_branches others pattern (unlike t table pattern lowest classes) above (before ++ answer ∷ []) planned.2 within (filter_all (λ c. c < class_count t) (λ other. not (answer_alike t table pattern lowest other)) classes below.1)
          (none_part_unlike above pattern lowest classes none)
          (subst (λ a. NoneGive pattern (before ++ a ∷ []) (unlike t table pattern lowest classes)) (sym planned.0) (none_give_unlike pattern lowest before classes given)),
    )

  -- ---- numbers that can be written

  mutual
    steps_spelled : (node : PlanNode) (classes : List ℕ) → IsPlanned t table classes node → AreBelow classes → length classes ≤ class_count t → AllByRecursion HasPlanStepSpelling (node_steps node)
    steps_spelled (leaf class) classes planned below few =
        let one : AreBelow (class ∷ []) = subst AreBelow planned below in
        (omega (arith, one.0, can.classes), tt)
    steps_spelled (ask pattern branches) classes planned below few =
        ((omega (arith, planned.1.within, can.patterns), omega (arith, asks_and_branches t table branches pattern classes planned.2, few, can.classes)), branches_spelled branches pattern classes planned.2 below few)

    branches_spelled : (branches : Branches) (pattern : ℕ) (classes : List ℕ) → ArePlanned t table pattern classes branches → AreBelow classes → length classes ≤ class_count t → AllByRecursion HasPlanStepSpelling (branch_steps branches)
    branches_spelled no_branch pattern classes planned below few = tt
    branches_spelled (branch answer node others) pattern [] planned below few = absurd planned
    branches_spelled (branch answer node others) pattern (lowest ∷ classes) planned below few =
        let both : length (alike_with t table pattern lowest classes) + length (unlike t table pattern lowest classes) ≡ length classes = parts_add t table pattern lowest classes in (
          tt,
          all_both HasPlanStepSpelling (node_steps node) (branch_steps others)
              (steps_spelled node (lowest ∷ alike_with t table pattern lowest classes) planned.1 (below.0, filter_all (λ c. c < class_count t) (answer_alike t table pattern lowest) classes below.1) (omega (arith, few, both)))
              (branches_spelled others pattern (unlike t table pattern lowest classes) planned.2 (filter_all (λ c. c < class_count t) (λ other. not (answer_alike t table pattern lowest other)) classes below.1) (omega (arith, few, both))),
        )

  mapped_spelled : (steps : List Step) → AllByRecursion HasPlanStepSpelling steps → AllByRecursion HasPlanSpelling (map step steps ++ end ∷ [])
  mapped_spelled [] all = (tt, tt)
  mapped_spelled (s ∷ steps) all = (all.0, mapped_spelled steps all.1)

  all_below : AreBelow (range_with_len 0 (class_count t))
  all_below = range_all (λ c. c < class_count t) 0 (class_count t) (λ k low high. omega (arith, high))

  few_classes : length (range_with_len 0 (class_count t)) ≡ class_count t
  few_classes = range-length t table 0 (class_count t)

  lines_spelled : AllByRecursion HasPlanSpelling (plan_lines plan)
  lines_spelled = (
    (omega (arith, is.positions_are, can.positions), omega (arith, is.patterns_are, can.patterns), omega (arith, is.classes_are, can.classes)),
    mapped_spelled plan.steps (subst (AllByRecursion HasPlanStepSpelling) (sym is.steps_are) (steps_spelled is.node (range_with_len 0 (class_count t)) is.planned all_below (omega (arith, few_classes)))),
  )

  plan_well_formed : IsWellFormed plan
  plan_well_formed =
      right_trees plan (record { node = is.node; steps_are = is.steps_are }) (All-from_recursion HasPlanSpelling (plan_lines plan) lines_spelled)
      (planned_right is.node (range_with_len 0 (class_count t)) [] is.planned all_below (λ pattern among. absurd (omega (arith, among.1))))

  plan_ways : (root : HasNode plan) → depth_of root.node ≤ plan.patterns
  plan_ways root =
      let same : root.node ≡ is.node = (one_node root.node is.node [] [] (ap (λ steps. steps ++ []) (sym root.steps_are ∙ is.steps_are))).0 in
      omega (arith, ap depth_of same, short_ways t table is.node (range_with_len 0 (class_count t)) is.planned, is.patterns_are)

  plan_asks : ask_count plan.steps < plan.classes
  plan_asks = omega (arith, ap ask_count is.steps_are, few_asks t table is.node (range_with_len 0 (class_count t)) is.planned, few_classes, is.classes_are)

pub plans_are_good : PlansAreGood
plans_are_good t table plan can is = record {
  well_formed = plan_well_formed t table can plan is;
  short = record { ways = plan_ways t table can plan is; asks = plan_asks t table can plan is };
  home = leads_home t table plan can is;
}
