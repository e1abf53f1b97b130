-- One more node, and the branches that wait.
use Rattle.std.proofs.Common.{◌≡◌, ◌∙◌, ℕ, ◌-◌, ◌*◌, ◌<◌, ◌≤◌, refl, ap, sym, subst, arith, get_or, append_assoc}
use Rattle.std.specs.Prelude.{List, [], ◌∷◌, ◌++◌, reverse, length, sum_by, slice_index}
use Rattle.std.specs.List.{AllByRecursion}
use Rattle.std.proofs.lemmas.List.{reverse-append, reverse-reverse, append-nil}
use Rattle.std.proofs.lemmas.List.Sums.{sum_by-append}
use Rattle.net_model.specs.ClassTable.{ClassTable}
use Rattle.dict_rows.specs.AnswerTable.{Answers}
use Rattle.adaptive_tree.specs.declared.steps.Step.{Step}
use Rattle.adaptive_tree.specs.declared.steps.Step.TheVariants.{Ask, On, Class}
use Rattle.adaptive_planner.specs.declared.class_numbers.ClassNumbers.{ClassNumbers}
use Rattle.adaptive_planner.specs.declared.parting.Branch.{Branch}
use Rattle.adaptive_planner.specs.declared.planner.Planner.{Planner}
use Rattle.adaptive_tree.specs.PlanNode.{leaf, ask, node_steps}
use Rattle.adaptive_planner.specs.Numbering.{AreNumbersOfTable, class_number, numbered_bits}
use Rattle.adaptive_planner.specs.Counting.{AreCountsOf, IsMostParting}
use Rattle.adaptive_planner.specs.Parting.{AreBranchesOf, classes_of, branch_numbers}
use Rattle.adaptive_planner.specs.Planning.{IsToldSet, IsToldBranch, IsPlanner, next_branches, nodes_left, AreBranchSteps, BeginNode, AreNodeSteps, HaveNode, AddsNode}
use Rattle.adaptive_planner.proofs.PartLemmas.{several_parts}
use Rattle.adaptive_planner.proofs.ToldLemmas.{parts_told, parts_nodes, some_parted_pair, sum_cons}
use Rattle.adaptive_planner.proofs.BranchLemmas.{HaveBranches, branches_planned, parts_most, AreBoth, branch_steps_of}

all_both : {A : Type 0} (P : A → Type 0) (xs ys : List A) → AllByRecursion P xs → AllByRecursion P ys → AllByRecursion P (xs ++ ys)
all_both P [] ys one two = two
all_both P (x ∷ xs) ys one two = (one.0, all_both P xs ys one.1 two)

only_one : (xs : List ℕ) → 0 < length xs → length xs ≤ 1 → xs ≡ get_or xs 0 0 ∷ []
only_one [] some few = absurd (omega (arith, some))
only_one (x ∷ []) some few = refl
only_one (x ∷ y ∷ xs) some few = absurd (omega (arith, few))

abbrev weight : Branch → ℕ
weight b = 2 * length (classes_of b) - 1

module _ (c : ClassNumbers) (set : List ℕ) (old new : Planner) (told : IsToldSet c set) (old_is : IsPlanner c old) (counts : AreCountsOf c [] new.counts) (slots : length new.slots.items ≡ length c.patterns.items) where
  -- ---- a set of one class

  module _ (few : length set ≤ 1) (waiting : new.waiting.items ≡ old.waiting.items) (steps : new.steps ≡ old.steps ++ Class (get_or set 0 0) ∷ []) where
    same_next : next_branches new ≡ next_branches old
    same_next = ap reverse waiting

    class_steps : (t : ClassTable) (table : Answers) → HaveNode t table c set old new
    class_steps t table more more_are = (
      leaf (get_or set 0 0),
      more,
      only_one set told.some few,
      subst (λ (bs : List Branch). AreBranchSteps t table c bs more) same_next more_are,
      ap (λ (ss : List Step). ss ++ more) steps ∙ append_assoc old.steps (Class (get_or set 0 0) ∷ []) more,
    )

    pub adds_class : AddsNode c set old new
    adds_class = record {
      planner = record { counts = counts; slots = slots; waiting = subst (AllByRecursion (IsToldBranch c)) (sym same_next) old_is.waiting };
      less = omega (arith, ap (sum_by weight) same_next, told.some);
      steps = λ t table are. class_steps t table;
    }

  -- ---- a set that is asked

  module _ (several : 1 < length set) (pattern : ℕ) (most : IsMostParting c set pattern) (bs : List Branch) (parts : AreBranchesOf c pattern set bs) (known : (j : ℕ) → j < length bs → slice_index (branch_numbers bs) j < length c.patterns.items)
      (waiting : new.waiting.items ≡ old.waiting.items ++ reverse bs) (steps : new.steps ≡ old.steps ++ Ask pattern (length bs) ∷ []) where
    more_next : next_branches new ≡ bs ++ next_branches old
    more_next = ap reverse waiting ∙ (reverse-append old.waiting.items (reverse bs) ∙ ap (λ (first : List Branch). first ++ next_branches old) (reverse-reverse bs))

    module _ (t : ClassTable) (table : Answers) (are : AreNumbersOfTable t table c) (more : List Step) (more_are : AreBranchSteps t table c (next_branches new) more) where
      both : AreBoth t table c bs (next_branches old) more
      both = branch_steps_of t table c bs (next_branches old) more (subst (λ (rest : List Branch). AreBranchSteps t table c rest more) more_next more_are)

      have : HaveBranches t table c are pattern (omega (arith, most.within, are.patterns)) set (length bs) both.mine
      have = branches_planned t table c are pattern (omega (arith, most.within, are.patterns)) bs set both.mine parts told.known both.mine_are

      node_is : node_steps (ask pattern have.branches) ≡ Ask pattern (length bs) ∷ both.mine
      node_is = (λ i. Ask pattern (have.count i) ∷ have.steps_are i)

      steps_all : new.steps ++ more ≡ old.steps ++ (node_steps (ask pattern have.branches) ++ both.others)
      steps_all =
          ap (λ (ss : List Step). ss ++ more) steps
          ∙ (append_assoc old.steps (Ask pattern (length bs) ∷ []) more
          ∙ (ap (λ (ss : List Step). old.steps ++ (Ask pattern (length bs) ∷ ss)) both.steps_are ∙ ap (λ (ss : List Step). old.steps ++ (ss ++ both.others)) (sym node_is)))

    ask_steps : (t : ClassTable) (table : Answers) → AreNumbersOfTable t table c → HaveNode t table c set old new
    ask_steps t table are more more_are = (
      ask pattern (have t table are more more_are).branches,
      (both t table are more more_are).others,
      (several, parts_most t table c are set pattern told.known most, (have t table are more more_are).planned),
      (both t table are more more_are).others_are,
      steps_all t table are more more_are,
    )

    pub adds_ask : AddsNode c set old new
    adds_ask = record {
      planner = record {
        counts = counts;
        slots = slots;
        waiting = subst (AllByRecursion (IsToldBranch c)) (sym more_next) (all_both (IsToldBranch c) bs (next_branches old) (parts_told c pattern most.within bs set parts told known) old_is.waiting);
      };
      less =
          omega (arith, ap (sum_by weight) more_next, sum_by-append weight bs (next_branches old), parts_nodes c (class_number c pattern) pattern bs set parts, several_parts (class_number c pattern) pattern set bs parts (some_parted_pair c set pattern told several most));
      steps = ask_steps;
    }

-- ---- a branch that waits no longer

module _ (c : ClassNumbers) (old mid new : Planner) (b : Branch) (waiting : old.waiting.items ≡ mid.waiting.items ++ b ∷ []) (steps : mid.steps ≡ old.steps ++ On (numbered_bits c b.pattern b.number) ∷ []) where
  pub first_next : next_branches old ≡ b ∷ next_branches mid
  first_next = ap reverse waiting ∙ reverse-append mid.waiting.items (b ∷ [])

  pub mid_planner : IsPlanner c old → AreCountsOf c [] mid.counts → length mid.slots.items ≡ length c.patterns.items → IsPlanner c mid
  mid_planner is counts slots = let all : AllByRecursion (IsToldBranch c) (b ∷ next_branches mid) = subst (AllByRecursion (IsToldBranch c)) first_next is.waiting in record { counts = counts; slots = slots; waiting = all.1 }

  pub branch_told : IsPlanner c old → IsToldBranch c b
  branch_told is = let all : AllByRecursion (IsToldBranch c) (b ∷ next_branches mid) = subst (AllByRecursion (IsToldBranch c)) first_next is.waiting in all.0

  module _ (adds : AddsNode c (classes_of b) mid new) where
    pub fewer_left : 0 < length (classes_of b) → nodes_left new < nodes_left old
    fewer_left some = omega (arith, adds.less, ap (sum_by weight) first_next, sum_cons c b (next_branches mid), some)

    pub begun_on : (t : ClassTable) (table : Answers) (set : List ℕ) → AreNumbersOfTable t table c → BeginNode t table c set old → BeginNode t table c set new
    begun_on t table set are begun more more_are =
        let have = adds.steps t table are more more_are in
        let own : List Step = On (numbered_bits c b.pattern b.number) ∷ (node_steps have.0 ++ have.1) in
        let own_are : AreBranchSteps t table c (b ∷ next_branches mid) own = (have.0, have.1, have.2, have.3, refl) in
        let root = begun own (subst (λ (bs : List Branch). AreBranchSteps t table c bs own) (sym first_next) own_are) in (
          root.0,
          root.1,
          have.4 ∙ (ap (λ (ss : List Step). ss ++ (node_steps have.0 ++ have.1)) steps ∙ (append_assoc old.steps (On (numbered_bits c b.pattern b.number) ∷ []) (node_steps have.0 ++ have.1) ∙ root.2)),
        )

-- ---- the first node, and the end

pub begun_first : (c : ClassNumbers) (set : List ℕ) (old new : Planner) → old.waiting.items ≡ [] → old.steps ≡ [] → AddsNode c set old new → (t : ClassTable) (table : Answers) → AreNumbersOfTable t table c → BeginNode t table c set new
begun_first c set old new none empty adds t table are more more_are =
    let have = adds.steps t table are more more_are in
    let rest : have.1 ≡ [] = subst (λ (bs : List Branch). AreBranchSteps t table c bs have.1) (ap reverse none) have.3 in
    (have.0, have.2, have.4 ∙ (ap (λ (ss : List Step). ss ++ (node_steps have.0 ++ have.1)) empty ∙ (ap (λ (ss : List Step). node_steps have.0 ++ ss) rest ∙ append-nil (node_steps have.0))))

pub begun_all : (c : ClassNumbers) (set : List ℕ) (planner : Planner) → planner.waiting.items ≡ [] → (t : ClassTable) (table : Answers) → BeginNode t table c set planner → AreNodeSteps t table c set planner.steps
begun_all c set planner none t table begun =
    let root = begun [] (subst (λ (bs : List Branch). AreBranchSteps t table c bs []) (sym (ap reverse none)) refl) in
    (root.0, root.1, sym (append-nil planner.steps) ∙ root.2)
