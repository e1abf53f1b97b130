-- The answers of a number lead to its class.
use Rattle.std.proofs.Common.{◌≡◌, ◌∙◌, ℕ, zero, suc, ◌+◌, ◌<◌, ◌≤◌, refl, ap, sym, subst, arith, cond, inl, inr}
use Rattle.std.specs.Prelude.{Bool, true, false, not, if◌then◌else◌, List, [], ◌∷◌, length, map, take, filter, ◌⊎◌, Option, Some, fold, option_and_then}
use Rattle.std.specs.List.{range_with_len, AllByRecursion}
use Rattle.std.proofs.lemmas.Bool.{false≢true}
use Rattle.std.proofs.lemmas.List.Elements.{All-from_recursion}
use Rattle.net_model.specs.ClassTable.{ClassTable, class_count, class_at, representative, same_bits}
use Rattle.class_refine.proofs.Refined.{representative-member}
use Rattle.dict_rows.specs.AnswerTable.{Answers, answer_to}
use Rattle.dict_rows.proofs.EntryLemmas.{same_bits-Decides}
use Rattle.adaptive_tree.specs.declared.outcome.Outcome.TheVariants as outcome
use Rattle.adaptive_tree.specs.declared.steps.Plan.{Plan}
use Rattle.adaptive_tree.specs.PlanNode.{PlanNode, Branches, leaf, ask, no_branch, branch}
use Rattle.adaptive_planner.specs.Planned.{IsPlanned, ArePlanned, IsPlan, class_answer, answer_alike, alike_with, unlike}
use Rattle.adaptive_tree.specs.Walk.{branch_for, next_node, outcome_at}
use Rattle.adaptive_tree.specs.AnswerLog.{Answer, AreRightAnswers, IsRightAnswer, log_answer_at, outcome_after}
use Rattle.adaptive_planner.specs.Promises.{LeadsHome, IsInTable}
use Rattle.adaptive_planner.specs.Laws.{CanBePlanned}

-- ---- classes of a set

abbrev IsIn : ℕ → List ℕ → Type 0
IsIn c [] = ⊥
IsIn c (x ∷ classes) = (c ≡ x) ⊎ IsIn c classes

later_in : (c first n : ℕ) → ((first + 1 ≤ c) → c < first + 1 + n → IsIn c (range_with_len (first + 1) n)) → first ≤ c → c < first + suc n → (c ≡ first) ⊎ (first + 1 ≤ c) → IsIn c (range_with_len first (suc n))
later_in c first n rest low high (inl same) = inl same
later_in c first n rest low high (inr above) = inr (rest above (omega (arith, high)))

same_or_above : (c first : ℕ) → first ≤ c → (c ≡ first) ⊎ (first + 1 ≤ c)
same_or_above c first low = grind (arith, low)

range_in : (c first n : ℕ) → first ≤ c → c < first + n → IsIn c (range_with_len first n)
range_in c first zero low high = absurd (omega (arith, low, high))
range_in c first (suc n) low high = later_in c first n (range_in c (first + 1) n) low high (same_or_above c first low)

filter_in : (test : ℕ → Bool) (c : ℕ) (classes : List ℕ) → test c ≡ true → IsIn c classes → IsIn c (filter test classes)
filter_in test c [] passes among = among
filter_in test c (x ∷ classes) passes (inl same) = first_kept (test x) refl
  where
    first_kept : (b : Bool) → test x ≡ b → IsIn c (cond b (x ∷ filter test classes) (filter test classes))
    first_kept true is = inl same
    first_kept false is = absurd (false≢true (sym is ∙ (ap test (sym same) ∙ passes)))
filter_in test c (x ∷ classes) passes (inr rest) = rest_kept (test x) (filter_in test c classes passes rest)
  where
    rest_kept : (b : Bool) → IsIn c (filter test classes) → IsIn c (cond b (x ∷ filter test classes) (filter test classes))
    rest_kept true kept = inr kept
    rest_kept false kept = kept

module _ (t : ClassTable) (table : Answers) (number c : ℕ) where
  -- the answers of the number lead from a node to its class
  record Home (node : PlanNode) : Type 0 where
    answers : List Answer
    right : AreRightAnswers table.positions node answers
    own : AllByRecursion (IsInTable table number) answers
    home : outcome_after node answers ≡ outcome.Class c

  leaf_home : (class : ℕ) → IsIn c (class ∷ []) → Home (leaf class)
  leaf_home class (inl same) = record { answers = []; right = λ at low. absurd (omega (arith, low)); own = tt; home = ap outcome.Class (sym same) }
  leaf_home class (inr none) = absurd none

  record Branch (bits : List Bool) (branches : Branches) : Type 0 where
    node : PlanNode
    found : branch_for bits branches ≡ Some node
    home : Home node

-- the node to which answers lead from a node, if there is one
abbrev onward : Option PlanNode → List Answer → Option PlanNode
onward first answers = fold (λ node bits. option_and_then (next_node bits) node) first (map (λ answer. answer.bits) answers)

module _ (t : ClassTable) (table : Answers) (number c : ℕ)
    (same : (pattern : ℕ) → pattern < length table.rows → answer_to table pattern number ≡ class_answer t table pattern c)
    (wide : (pattern : ℕ) → pattern < length table.rows → length (answer_to table pattern number) ≡ table.positions) where
  abbrev own_answer : ℕ → Answer
  own_answer pattern = record { pattern = pattern; bits = answer_to table pattern number }

  later_right : (pattern : ℕ) (branches : Branches) → pattern < length table.rows → (b : Branch t table number c (answer_to table pattern number) branches) → AreRightAnswers table.positions (ask pattern branches) (own_answer pattern ∷ b.home.answers)
  later_right pattern branches within b zero low = record { asked = refl; width = wide pattern within }
  later_right pattern branches within b (suc at) low =
      let r : IsRightAnswer table.positions b.node (take at b.home.answers) (log_answer_at b.home.answers at) = b.home.right at (omega (arith, low)) in
      record { asked = ap (λ o. outcome_at (onward o (take at b.home.answers))) b.found ∙ r.asked; width = r.width }

  asked_home : (pattern : ℕ) (branches : Branches) → pattern < length table.rows → Branch t table number c (answer_to table pattern number) branches → Home t table number c (ask pattern branches)
  asked_home pattern branches within b = record {
    answers = own_answer pattern ∷ b.home.answers;
    right = later_right pattern branches within b;
    own = (record { within = within; bits_are = refl }, b.home.own);
    home = ap (λ o. outcome_at (onward o b.home.answers)) b.found ∙ b.home.home;
  }

  not_lowest : (pattern lowest : ℕ) → answer_alike t table pattern lowest c ≡ false → c ≡ lowest → ⊥
  not_lowest pattern lowest other equal =
      false≢true (sym other ∙ ((same_bits-Decides (class_answer t table pattern lowest) (class_answer t table pattern c)).1 (ap (class_answer t table pattern) (sym equal))))

  among_alike : (pattern lowest : ℕ) (classes : List ℕ) → answer_alike t table pattern lowest c ≡ true → IsIn c (lowest ∷ classes) → IsIn c (lowest ∷ alike_with t table pattern lowest classes)
  among_alike pattern lowest classes alike (inl equal) = inl equal
  among_alike pattern lowest classes alike (inr rest) = inr (filter_in (answer_alike t table pattern lowest) c classes alike rest)

  among_unlike : (pattern lowest : ℕ) (classes : List ℕ) → answer_alike t table pattern lowest c ≡ false → IsIn c (lowest ∷ classes) → IsIn c (unlike t table pattern lowest classes)
  among_unlike pattern lowest classes other (inl equal) = absurd (not_lowest pattern lowest other equal)
  among_unlike pattern lowest classes other (inr rest) = filter_in (λ x. not (answer_alike t table pattern lowest x)) c classes (ap not other) rest

  by_lowest : (pattern lowest : ℕ) (classes : List ℕ) (answer : List Bool) (node : PlanNode) (others : Branches) → pattern < length table.rows → answer ≡ class_answer t table pattern lowest → IsIn c (lowest ∷ classes)
      → (IsIn c (lowest ∷ alike_with t table pattern lowest classes) → Home t table number c node)
      → (IsIn c (unlike t table pattern lowest classes) → Branch t table number c (answer_to table pattern number) others)
      → (b : Bool) → answer_alike t table pattern lowest c ≡ b → Branch t table number c (answer_to table pattern number) (branch answer node others)
  by_lowest pattern lowest classes answer node others within is among here there true alike =
      let equal : answer ≡ answer_to table pattern number = is ∙ ((same_bits-Decides (class_answer t table pattern lowest) (class_answer t table pattern c)).0 alike ∙ sym (same pattern within)) in
      let found : same_bits answer (answer_to table pattern number) ≡ true = (same_bits-Decides answer (answer_to table pattern number)).1 equal in
      record { node = node; found = ap (λ x. if x then Some node else branch_for (answer_to table pattern number) others) found; home = here (among_alike pattern lowest classes alike among) }
  by_lowest pattern lowest classes answer node others within is among here there false other =
      let b : Branch t table number c (answer_to table pattern number) others = there (among_unlike pattern lowest classes other among) in
      let unequal : same_bits answer (answer_to table pattern number) ≡ false = ap (λ x. same_bits x (answer_to table pattern number)) is ∙ (ap (same_bits (class_answer t table pattern lowest)) (same pattern within) ∙ other) in
      record { node = b.node; found = ap (λ x. if x then Some node else branch_for (answer_to table pattern number) others) unequal ∙ b.found; home = b.home }

  mutual
    home_from : (node : PlanNode) (classes : List ℕ) → IsPlanned t table classes node → IsIn c classes → Home t table number c node
    home_from (leaf class) classes planned among = leaf_home t table number c class (subst (IsIn c) planned among)
    home_from (ask pattern branches) classes planned among = asked_home pattern branches planned.1.within (home_among branches pattern classes planned.2 planned.1.within among)

    home_among : (branches : Branches) (pattern : ℕ) (classes : List ℕ) → ArePlanned t table pattern classes branches → pattern < length table.rows → IsIn c classes → Branch t table number c (answer_to table pattern number) branches
    home_among no_branch pattern [] planned within among = absurd among
    home_among no_branch pattern (lowest ∷ classes) planned within among = absurd planned
    home_among (branch answer node others) pattern [] planned within among = absurd planned
    home_among (branch answer node others) pattern (lowest ∷ classes) planned within among =
        by_lowest pattern lowest classes answer node others within planned.0 among
        (home_from node (lowest ∷ alike_with t table pattern lowest classes) planned.1)
        (home_among others pattern (unlike t table pattern lowest classes) planned.2 within)
        (answer_alike t table pattern lowest c) refl

-- each number's own answers lead to its class
pub leads_home : (t : ClassTable) (table : Answers) (plan : Plan) → CanBePlanned t table → IsPlan t table plan → (number : ℕ) → number < table.numbers → LeadsHome plan (IsInTable table number) (class_at t number)
leads_home t table plan can is number low =
    let c : ℕ = class_at t number in
    let numbers : length t.class_of ≡ table.numbers = can.apart.numbers in
    let below : c < class_count t = can.whole.classes number (omega (arith, low, numbers)) in
    let lead : (representative t c < length t.class_of) × (class_at t (representative t c) ≡ c) = representative-member t can.whole c below in
    let same : (pattern : ℕ) → pattern < length table.rows → answer_to table pattern number ≡ class_answer t table pattern c
    = (can.apart.same number (representative t c) low (omega (arith, lead.0, numbers))).0 (sym lead.1) in
    let h : Home t table number c is.node
    = home_from t table number c same (λ pattern within. can.table_is.positions pattern number within low) is.node (range_with_len 0 (class_count t)) is.planned (range_in c 0 (class_count t) (omega arith) (omega (arith, below))) in
    record {
      root = record { node = is.node; steps_are = is.steps_are };
      answers = h.answers;
      right = subst (λ positions. AreRightAnswers positions is.node h.answers) (sym is.positions_are) h.right;
      own = All-from_recursion (IsInTable table number) h.answers h.own;
      home = h.home;
    }
