-- Numbers in place of answers: the same pattern splits most pairs, and the branches are those of the answers.
use Rattle.std.proofs.Common.{◌≡◌, ◌∙◌, ℕ, suc, ◌<◌, refl, ap, sym, subst, arith, cond, append_assoc}
use Rattle.std.specs.Prelude.{Bool, true, false, not, ◌==◌, List, [], ◌∷◌, ◌++◌, map, length, filter, count_by}
use Rattle.std.specs.List.{AllByRecursion}
use Rattle.std.proofs.lemmas.Bool.{eqb-true, eqb-false, false≢true}
use Rattle.net_model.specs.ClassTable.{ClassTable, class_count}
use Rattle.dict_rows.specs.AnswerTable.{Answers}
use Rattle.dict_rows.proofs.EntryLemmas.{same_bits-Decides}
use Rattle.adaptive_tree.specs.declared.steps.Step.{Step}
use Rattle.adaptive_tree.specs.declared.steps.Step.TheVariants.{On}
use Rattle.adaptive_planner.specs.declared.class_numbers.ClassNumbers.{ClassNumbers}
use Rattle.adaptive_planner.specs.declared.parting.Branch.{Branch}
use Rattle.adaptive_tree.specs.PlanNode.{Branches, no_branch, branch, branch_answers, node_steps, branch_steps}
use Rattle.adaptive_planner.specs.Planned.{IsPlanned, ArePlanned, PartsMost, class_answer, answer_alike, parted_pairs, alike_with, unlike}
use Rattle.adaptive_planner.specs.Numbering.{AreNumbersOfTable, class_number, numbered_bits}
use Rattle.adaptive_planner.specs.Counting.{IsMostParting, unequal_pairs}
use Rattle.adaptive_planner.specs.Parting.{AreSetParts, classes_of}
use Rattle.adaptive_planner.specs.Planning.{AreBranchSteps}
use Rattle.adaptive_planner.proofs.OnePlan.{count_by-cons}
use Rattle.adaptive_planner.proofs.PairLemmas.{one_if}
use Rattle.adaptive_planner.proofs.SomePlan.{filter_all}

module _ (t : ClassTable) (table : Answers) (c : ClassNumbers) (are : AreNumbersOfTable t table c) where
  abbrev AreKnown : List ℕ → Type 0
  AreKnown xs = AllByRecursion (λ class. class < length c.own.items) xs

  module _ (pattern : ℕ) (within : pattern < length table.rows) where
    abbrev f : ℕ → ℕ
    f = class_number c pattern

    module _ (x y : ℕ) (x_known : x < length c.own.items) (y_known : y < length c.own.items) where
      x_low : x < class_count t
      x_low = omega (arith, x_known, are.classes)

      y_low : y < class_count t
      y_low = omega (arith, y_known, are.classes)

      answers_same : f x ≡ f y → class_answer t table pattern x ≡ class_answer t table pattern y
      answers_same e = sym (are.bits pattern x within x_low) ∙ (ap (numbered_bits c pattern) e ∙ are.bits pattern y within y_low)

      by_case : (a b : Bool) → answer_alike t table pattern x y ≡ a → f x == f y ≡ b → answer_alike t table pattern x y ≡ (f x == f y)
      by_case true true e g = e ∙ sym g
      by_case false false e g = e ∙ sym g
      by_case true false e g =
          absurd (eqb-false (f x) (f y) g (are.same pattern x y within x_low y_low ((same_bits-Decides (class_answer t table pattern x) (class_answer t table pattern y)).0 e)))
      by_case false true e g =
          absurd (false≢true (sym e ∙ (same_bits-Decides (class_answer t table pattern x) (class_answer t table pattern y)).1 (answers_same (eqb-true (f x) (f y) g))))

      pub alike_is : answer_alike t table pattern x y ≡ (f x == f y)
      alike_is = by_case (answer_alike t table pattern x y) (f x == f y) refl refl

    unlike_count : (x : ℕ) (xs : List ℕ) → x < length c.own.items → AreKnown xs → count_by (λ o. not (answer_alike t table pattern x o)) xs ≡ count_by (λ n. not (f x == n)) (map f xs)
    unlike_count x [] low known = refl
    unlike_count x (y ∷ xs) low known =
        omega (arith, ap (λ b. one_if (not b)) (alike_is x y low known.0), unlike_count x xs low known.1, count_by-cons (λ o. not (answer_alike t table pattern x o)) y xs, count_by-cons (λ n. not (f x == n)) (f y) (map f xs))

    pub pairs_are : (xs : List ℕ) → AreKnown xs → parted_pairs t table pattern xs ≡ unequal_pairs (map f xs)
    pairs_are [] known = refl
    pairs_are (x ∷ xs) known = omega (arith, unlike_count x xs known.0 known.1, pairs_are xs known.1)

    filter_alike : (x : ℕ) (xs : List ℕ) → x < length c.own.items → AreKnown xs → alike_with t table pattern x xs ≡ filter (λ o. f x == f o) xs
    filter_alike x [] low known = refl
    filter_alike x (y ∷ xs) low known =
        ap (λ b. cond b (y ∷ alike_with t table pattern x xs) (alike_with t table pattern x xs)) (alike_is x y low known.0)
        ∙ ap (λ (rest : List ℕ). cond (f x == f y) (y ∷ rest) rest) (filter_alike x xs low known.1)

    filter_unlike : (x : ℕ) (xs : List ℕ) → x < length c.own.items → AreKnown xs → unlike t table pattern x xs ≡ filter (λ o. not (f x == f o)) xs
    filter_unlike x [] low known = refl
    filter_unlike x (y ∷ xs) low known =
        ap (λ b. cond (not b) (y ∷ unlike t table pattern x xs) (unlike t table pattern x xs)) (alike_is x y low known.0)
        ∙ ap (λ (rest : List ℕ). cond (not (f x == f y)) (y ∷ rest) rest) (filter_unlike x xs low known.1)

    -- ---- branches

    pub record HaveBranches (xs : List ℕ) (many : ℕ) (steps : List Step) : Type 0 where
      pub branches : Branches
      pub planned : ArePlanned t table pattern xs branches
      pub steps_are : branch_steps branches ≡ steps
      pub count : length (branch_answers branches) ≡ many

    pub branches_planned : (bs : List Branch) (xs : List ℕ) (steps : List Step) → AreSetParts f pattern xs bs → AreKnown xs → AreBranchSteps t table c bs steps → HaveBranches xs (length bs) steps
    branches_planned [] [] steps parts known are_steps = record { branches = no_branch; planned = tt; steps_are = sym are_steps; count = refl }
    branches_planned [] (x ∷ xs) steps parts known are_steps = absurd parts
    branches_planned (b ∷ bs) [] steps parts known are_steps = absurd parts
    branches_planned (b ∷ bs) (x ∷ xs) steps parts known are_steps =
        let rest_known : AreKnown (filter (λ o. not (f x == f o)) xs) = filter_all (λ class. class < length c.own.items) (λ o. not (f x == f o)) xs known.1 in
        let later : HaveBranches (filter (λ o. not (f x == f o)) xs) (length bs) are_steps.1 = branches_planned bs (filter (λ o. not (f x == f o)) xs) are_steps.1 parts.3 rest_known are_steps.3 in
        let set_is : classes_of b ≡ x ∷ alike_with t table pattern x xs = parts.2 ∙ ap (λ (rest : List ℕ). x ∷ rest) (sym (filter_alike x xs known.0 known.1)) in
        let bits : numbered_bits c b.pattern b.number ≡ class_answer t table pattern x = (λ i. numbered_bits c (parts.0 i) (parts.1 i)) ∙ are.bits pattern x within (omega (arith, known.0, are.classes)) in
        record {
          branches = branch (class_answer t table pattern x) are_steps.0 later.branches;
          planned = (
            refl,
            subst (λ (ys : List ℕ). IsPlanned t table ys are_steps.0) set_is are_steps.2,
            subst (λ (ys : List ℕ). ArePlanned t table pattern ys later.branches) (sym (filter_unlike x xs known.0 known.1)) later.planned,
          );
          steps_are =
              ap (λ (more : List Step). On (class_answer t table pattern x) ∷ (node_steps are_steps.0 ++ more)) later.steps_are
              ∙ (ap (λ (a : List Bool). On a ∷ (node_steps are_steps.0 ++ are_steps.1)) (sym bits) ∙ sym are_steps.4);
          count = ap suc later.count;
        }

  pub parts_most : (xs : List ℕ) (pattern : ℕ) → AreKnown xs → IsMostParting c xs pattern → PartsMost t table xs pattern
  parts_most xs pattern known most =
      let here : pattern < length table.rows = omega (arith, most.within, are.patterns) in
      record {
        within = here;
        most = λ other low. omega (arith, pairs_are other low xs known, pairs_are pattern here xs known, most.most other (omega (arith, low, are.patterns)));
        lowest = λ other low. omega (arith, pairs_are other (omega (arith, low, here)) xs known, pairs_are pattern here xs known, most.lowest other low);
      }

-- ---- steps of branches, one list after another

module _ (t : ClassTable) (table : Answers) (c : ClassNumbers) where
  pub record AreBoth (first second : List Branch) (steps : List Step) : Type 0 where
    pub mine : List Step
    pub others : List Step
    pub mine_are : AreBranchSteps t table c first mine
    pub others_are : AreBranchSteps t table c second others
    pub steps_are : steps ≡ mine ++ others

  pub branch_steps_of : (first second : List Branch) (steps : List Step) → AreBranchSteps t table c (first ++ second) steps → AreBoth first second steps
  branch_steps_of [] second steps are = record { mine = []; others = steps; mine_are = refl; others_are = are; steps_are = refl }
  branch_steps_of (b ∷ first) second steps are =
      let later : AreBoth first second are.1 = branch_steps_of first second are.1 are.3 in
      record {
        mine = On (numbered_bits c b.pattern b.number) ∷ (node_steps are.0 ++ later.mine);
        others = later.others;
        mine_are = (are.0, later.mine, are.2, later.mine_are, refl);
        others_are = later.others_are;
        steps_are = are.4 ∙ ap (λ (more : List Step). On (numbered_bits c b.pattern b.number) ∷ more) (ap (λ (more : List Step). node_steps are.0 ++ more) later.steps_are ∙ sym (append_assoc (node_steps are.0) later.mine later.others));
      }
