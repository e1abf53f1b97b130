-- A set of classes has at most one plan, and each ask of it has two or more branches.
use Rattle.std.proofs.Common.{◌≡◌, ◌∙◌, ℕ, ◌+◌, ◌<◌, ◌≤◌, refl, ap, sym, subst, arith, cond, inl, inr}
use Rattle.std.specs.Prelude.{◌≢◌, Bool, true, false, not, if◌then◌else◌, List, [], ◌∷◌, ◌++◌, length, filter, count_by, ◌⊎◌}
use Rattle.std.specs.List.{range_with_len}
use Rattle.std.proofs.lemmas.List.Sums.{sum_by-append}
use Rattle.std.proofs.lemmas.List.Filters.{length-filter_both}
use Rattle.net_model.specs.ClassTable.{ClassTable, class_count}
use Rattle.dict_rows.specs.AnswerTable.{Answers}
use Rattle.adaptive_tree.specs.declared.steps.Step.{Step}
use Rattle.adaptive_tree.specs.declared.steps.Step.TheVariants.{Ask, On}
use Rattle.adaptive_tree.specs.declared.steps.Plan.{Plan}
use Rattle.adaptive_tree.specs.PlanNode.{PlanNode, Branches, leaf, ask, no_branch, branch, branch_answers, node_steps, branch_steps, is_ask, ask_count}
use Rattle.adaptive_planner.specs.Planned.{IsPlanned, ArePlanned, PartsMost, IsPlan, answer_alike, alike_with, unlike}
use Rattle.adaptive_tree.proofs.NodeReading.{height_of}

below_or_same : (a b : ℕ) → (a ≡ b) ⊎ ((a < b) ⊎ (b < a))
below_or_same a b = grind arith

first_number : List ℕ → ℕ
first_number [] = 0
first_number (n ∷ numbers) = n

plan_of : ℕ → ℕ → ℕ → List Step → Plan
plan_of positions patterns classes steps = record { positions = positions; patterns = patterns; classes = classes; steps = steps }

-- if none fails a test, all pass it
passed_cons : (b : Bool) (x : ℕ) (kept left xs : List ℕ) → cond (not b) (x ∷ left) left ≡ [] → (left ≡ [] → kept ≡ xs) → cond b (x ∷ kept) kept ≡ x ∷ xs
passed_cons true x kept left xs none same = ap (λ rest. x ∷ rest) (same none)
passed_cons false x kept left xs none same = absurd (omega (arith, ap length none))

pub passed_all : (test : ℕ → Bool) (xs : List ℕ) → filter (λ x. not (test x)) xs ≡ [] → filter test xs ≡ xs
passed_all test [] none = refl
passed_all test (x ∷ xs) none = passed_cons (test x) x (filter test xs) (filter (λ y. not (test y)) xs) xs none (passed_all test xs)

pub count_by-append : {A : Type 0} (test : A → Bool) (xs ys : List A) → count_by test (xs ++ ys) ≡ count_by test xs + count_by test ys
count_by-append test xs ys = sum_by-append (λ x. if test x then 1 else 0) xs ys

pub count_by-cons : {A : Type 0} (test : A → Bool) (x : A) (xs : List A) → count_by test (x ∷ xs) ≡ (if test x then 1 else 0) + count_by test xs
count_by-cons test x xs =
    let own : 0 + (if test x then 1 else 0) ≡ (if test x then 1 else 0) = omega arith in
    sum_by-append (λ y. if test y then 1 else 0) (x ∷ []) xs ∙ ap (λ n. n + count_by test xs) own

module _ (t : ClassTable) (table : Answers) where
  by_order : (classes : List ℕ) (p q : ℕ) → PartsMost t table classes p → PartsMost t table classes q → (p ≡ q) ⊎ ((p < q) ⊎ (q < p)) → p ≡ q
  by_order classes p q one two (inl same) = same
  by_order classes p q one two (inr (inl low)) = absurd (omega (arith, two.lowest p low, one.most q two.within))
  by_order classes p q one two (inr (inr low)) = absurd (omega (arith, one.lowest q low, two.most p one.within))

  pub most_once : (classes : List ℕ) (p q : ℕ) → PartsMost t table classes p → PartsMost t table classes q → p ≡ q
  most_once classes p q one two = by_order classes p q one two (below_or_same p q)

  mutual
    unfolding first_number

    pub planned_once : (node other : PlanNode) (classes : List ℕ) → IsPlanned t table classes node → IsPlanned t table classes other → node ≡ other
    planned_once (leaf c) (leaf d) classes one two = ap (λ numbers. leaf (first_number numbers)) (sym one ∙ two)
    planned_once (leaf c) (ask q others) classes one two = absurd (omega (arith, two.0, ap length one))
    planned_once (ask p branches) (leaf d) classes one two = absurd (omega (arith, one.0, ap length two))
    planned_once (ask p branches) (ask q others) classes one two =
        let same : p ≡ q = most_once classes p q one.1 two.1 in
        let planned : ArePlanned t table p classes others = subst (λ pattern. ArePlanned t table pattern classes others) (sym same) two.2 in
        ap (λ pattern. ask pattern branches) same ∙ ap (ask q) (branches_once branches others p classes one.2 planned)

    pub branches_once : (branches others : Branches) (pattern : ℕ) (classes : List ℕ) → ArePlanned t table pattern classes branches → ArePlanned t table pattern classes others → branches ≡ others
    branches_once no_branch no_branch pattern [] one two = refl
    branches_once no_branch no_branch pattern (lowest ∷ classes) one two = refl
    branches_once no_branch (branch a n more) pattern [] one two = absurd two
    branches_once no_branch (branch a n more) pattern (lowest ∷ classes) one two = absurd one
    branches_once (branch a n more) no_branch pattern [] one two = absurd one
    branches_once (branch a n more) no_branch pattern (lowest ∷ classes) one two = absurd two
    branches_once (branch a n more) (branch b m rest) pattern [] one two = absurd one
    branches_once (branch a n more) (branch b m rest) pattern (lowest ∷ classes) one two =
        ap (λ answer. branch answer n more) (one.0 ∙ sym two.0)
        ∙ (ap (λ node. branch b node more) (planned_once n m (lowest ∷ alike_with t table pattern lowest classes) one.1 two.1)
        ∙ ap (branch b m) (branches_once more rest pattern (unlike t table pattern lowest classes) one.2 two.2))

  pub plan_once : (plan other : Plan) → IsPlan t table plan → IsPlan t table other → plan ≡ other
  unfolding plan_of
  plan_once plan other one two =
      let nodes : one.node ≡ two.node = planned_once one.node two.node (range_with_len 0 (class_count t)) one.planned two.planned in
      let steps : plan.steps ≡ other.steps = one.steps_are ∙ (ap node_steps nodes ∙ sym two.steps_are) in
      ap (λ n. plan_of n plan.patterns plan.classes plan.steps) (one.positions_are ∙ sym two.positions_are)
      ∙ (ap (λ n. plan_of other.positions n plan.classes plan.steps) (one.patterns_are ∙ sym two.patterns_are)
      ∙ (ap (λ n. plan_of other.positions other.patterns n plan.steps) (one.classes_are ∙ sym two.classes_are)
      ∙ ap (plan_of other.positions other.patterns other.classes) steps))

  -- ---- a pattern that is asked splits the set

  -- a branch for all classes of the set would have the node of the set again
  others_alike : (pattern lowest : ℕ) (classes : List ℕ) (branches : Branches) → IsPlanned t table (lowest ∷ classes) (ask pattern branches) → alike_with t table pattern lowest classes ≡ classes → ⊥
  others_alike pattern lowest classes no_branch planned all = planned.2
  others_alike pattern lowest classes (branch answer node others) planned all =
      let again : IsPlanned t table (lowest ∷ classes) node = subst (λ set. IsPlanned t table (lowest ∷ set) node) all planned.2.1 in
      let same : node ≡ ask pattern (branch answer node others) = planned_once node (ask pattern (branch answer node others)) (lowest ∷ classes) again planned in
      omega (arith, ap height_of same)

  -- so some class answers otherwise than the lowest
  pub some_unlike : (pattern lowest : ℕ) (classes : List ℕ) (branches : Branches) → IsPlanned t table (lowest ∷ classes) (ask pattern branches) → unlike t table pattern lowest classes ≢ []
  some_unlike pattern lowest classes branches planned none = others_alike pattern lowest classes branches planned (passed_all (answer_alike t table pattern lowest) classes none)

  count_planned : (pattern : ℕ) (classes : List ℕ) (branches : Branches) → ArePlanned t table pattern classes branches → classes ≢ [] → 0 < length (branch_answers branches)
  count_planned pattern [] branches planned some = absurd (some refl)
  count_planned pattern (lowest ∷ classes) no_branch planned some = absurd planned
  count_planned pattern (lowest ∷ classes) (branch answer node others) planned some = omega arith

  -- an ask has two or more branches
  pub two_branches : (pattern : ℕ) (classes : List ℕ) (branches : Branches) → IsPlanned t table classes (ask pattern branches) → 2 ≤ length (branch_answers branches)
  two_branches pattern [] branches planned = absurd (omega (arith, planned.0))
  two_branches pattern (lowest ∷ classes) no_branch planned = absurd planned.2
  two_branches pattern (lowest ∷ classes) (branch answer node others) planned =
      omega (arith, count_planned pattern (unlike t table pattern lowest classes) others planned.2.2 (some_unlike pattern lowest classes (branch answer node others) planned))

  -- ---- there are fewer asks than classes

  mutual
    pub few_asks : (node : PlanNode) (classes : List ℕ) → IsPlanned t table classes node → ask_count (node_steps node) < length classes
    few_asks (leaf class) classes planned = omega (arith, ap length planned)
    few_asks (ask pattern branches) classes planned =
        let one_more : ask_count (node_steps (ask pattern branches)) ≡ 1 + ask_count (branch_steps branches) = count_by-cons is_ask (Ask pattern (length (branch_answers branches))) (branch_steps branches) in
        omega (arith, one_more, two_branches pattern classes branches planned, asks_and_branches branches pattern classes planned.2)

    pub asks_and_branches : (branches : Branches) (pattern : ℕ) (classes : List ℕ) → ArePlanned t table pattern classes branches → ask_count (branch_steps branches) + length (branch_answers branches) ≤ length classes
    asks_and_branches no_branch pattern classes planned = omega arith
    asks_and_branches (branch answer node others) pattern [] planned = absurd planned
    asks_and_branches (branch answer node others) pattern (lowest ∷ classes) planned =
        let alike : List ℕ = alike_with t table pattern lowest classes in
        let rest : List ℕ = unlike t table pattern lowest classes in
        let parts : length alike + length rest ≡ length classes = length-filter_both (answer_alike t table pattern lowest) (λ other. not (answer_alike t table pattern lowest other)) (λ other. refl) classes in
        let first : ask_count (node_steps node) < length (lowest ∷ alike) = few_asks node (lowest ∷ alike) planned.1 in
        let more : ask_count (branch_steps others) + length (branch_answers others) ≤ length rest = asks_and_branches others pattern rest planned.2 in
        let both : ask_count (node_steps node ++ branch_steps others) ≡ ask_count (node_steps node) + ask_count (branch_steps others) = count_by-append is_ask (node_steps node) (branch_steps others) in
        let behind_on : ask_count (branch_steps (branch answer node others)) ≡ 0 + ask_count (node_steps node ++ branch_steps others) = count_by-cons is_ask (On answer) (node_steps node ++ branch_steps others) in
        omega (arith, parts, first, more, both, behind_on)
