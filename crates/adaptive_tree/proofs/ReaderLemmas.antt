-- What a reader holds of the open asks, as lines come.
use Rattle.std.proofs.Common.{◌≡◌, ◌∙◌, ℕ, ◌+◌, ◌<◌, ◌≤◌, refl, ap, sym, subst, arith, append_assoc, append-nil, length-append, inl, inr}
use Rattle.std.specs.Option.{option_to_list}
use Rattle.std.proofs.lemmas.List.{reverse-append, length-reverse, nil_from_length}
use Rattle.std.specs.Prelude.{Option, Some, None, MatchOption, ◌⊎◌, ◌==◌, ◌||◌, cond, fold, reverse, Bool, true, false, List, [], ◌∷◌, ◌++◌, length, map, Contains}
use Rattle.std.specs.List.{list_any}
use Rattle.std.specs.Borrow.{Bor}
use Rattle.std.specs.BTreeSet.{BTreeSet, contains}
use Rattle.std.specs.BTreeMap.{is_at}
use Rattle.std.specs.Ordering.{nat_cmp, is_eq}
use Rattle.std.proofs.lemmas.Bool.{false≢true, false_from_ne_true, eqb-true, eq-eqb}
use Rattle.std.specs.Cmp.{Equal-is, nat_cmp_is}
use Rattle.std.specs.declared.cmp.Ordering.TheVariants.{Equal}
use Rattle.std.proofs.lemmas.Map.Lookups.{exact_unsigned}
use Rattle.std.proofs.lemmas.Map.Text.{is_eq-slice_cmp}
use Rattle.std.proofs.lemmas.Slice.Eq.{bytes_eq-Decides}
use Rattle.net_model.specs.BitText.{bit_digit}
use Rattle.net_model.specs.ClassTable.{same_bits}
use Rattle.dict_rows.proofs.EntryLemmas.{same_bits-Decides}
use Rattle.text_fields.proofs.BitLemmas.{digits_once}
use Rattle.adaptive_tree.specs.declared.steps.Step.{Step}
use Rattle.adaptive_tree.specs.declared.steps.Step.TheVariants.{Ask, On, Class}
use Rattle.adaptive_tree.specs.declared.steps.Plan.{Plan}
use Rattle.adaptive_tree.specs.declared.fault.PlanKind.TheVariants.{Order, Value}
use Rattle.adaptive_tree.specs.declared.reader.OpenAsk.{OpenAsk}
use Rattle.adaptive_tree.specs.declared.reader.Next.{Next}
use Rattle.adaptive_tree.specs.declared.reader.Next.TheVariants as next
use Rattle.adaptive_tree.specs.declared.reader.Reader.{Reader}
use Rattle.adaptive_tree.specs.PlanNode.{PlanNode, Branches, leaf, no_branch, ask, branch_answers, node_steps, branch_steps}
use Rattle.adaptive_tree.specs.PlanText.{step}
use Rattle.adaptive_tree.specs.WellFormed.{BeginPlan, IsRightStep, IsRightAsk, IsRightBranch, IsRightPlanLine, plan_begun, with_line}
use Rattle.adaptive_tree.specs.Growth.{AskAbove, steps_above, Growth, before_node, before_branch, grown, steps_so_far, HaveRoom, IsRoomy, MayComeFirst, MayStepCome, has_answer}
use Rattle.adaptive_tree.specs.Reading.{digits_order, IsOpenAsk, AreOpenAsks, HasOpenAsks, asks_pattern, IsAskedSet, HasBegun, is_node, is_branch, goes_on, IsNextOf, IsOpenAt, HaveCome, IsReadingPlan, HasNodeEnded, lines_so_far, IsRightNext, IsWrongLine, may_not_come, has_wrong_values, IsInnermostWhole, IsInnermostOpen, innermost_has, HasBranchLeft, IsInnermostBegun}
use Rattle.text_fields.specs.Fields.{AreDigitsOf}
use Rattle.adaptive_tree.proofs.StepTests.{or_left, or_right, among_at}
use Rattle.adaptive_tree.proofs.RightTrees.{push_branch, push_answers, pushed_place, either, in_first, in_later, in_first_or_later, among_in}
use Rattle.adaptive_tree.proofs.GrowthLemmas.{patterns_above, right_ask, asked_again, right_branch, branched_again, lines_with, step_misplaced, step_begins}

-- ---- the plan that lines begin

begun_from : (plan : Plan) (front steps : List Step) → fold with_line (record plan { steps = front }) (map step steps) ≡ record plan { steps = front ++ steps }
begun_from plan front [] = ap (λ (all : List Step). record plan { steps = all }) (sym (append-nil front))
begun_from plan front (s ∷ steps) = begun_from plan (front ++ s ∷ []) steps ∙ ap (λ (all : List Step). record plan { steps = all }) (append_assoc front (s ∷ []) steps)

pub begun_is : (plan : Plan) → plan_begun (lines_so_far plan) ≡ plan
begun_is plan = begun_from plan [] plan.steps

-- ---- orders of keys

nat_cmp_eq : (p q : ℕ) → is_eq (nat_cmp p q) ≡ true → p ≡ q
nat_cmp_eq p q e = exact_unsigned p q ((Equal-is (nat_cmp p q)).0 e)

nat_cmp_same : (p q : ℕ) → p ≡ q → is_eq (nat_cmp p q) ≡ true
nat_cmp_same p q e = (Equal-is (nat_cmp p q)).1 (sym (nat_cmp_is p q Equal e))

same_digits : (digits other : Bor (List ℕ)) (answer x : List Bool) → AreDigitsOf answer digits.now → AreDigitsOf x other.now → is_eq (digits_order digits other) ≡ same_bits x answer
same_digits digits other answer x d dx = both_ways (is_eq (digits_order digits other)) (same_bits x answer) here there
  where
    both_ways : (a b : Bool) → (a ≡ true → b ≡ true) → (b ≡ true → a ≡ true) → a ≡ b
    both_ways true true f g = refl
    both_ways true false f g = absurd (false≢true (f refl))
    both_ways false true f g = absurd (false≢true (g refl))
    both_ways false false f g = refl

    here : is_eq (digits_order digits other) ≡ true → same_bits x answer ≡ true
    here e =
        let same : digits.now ≡ other.now = (bytes_eq-Decides digits.now other.now).0 (sym (is_eq-slice_cmp digits.now other.now) ∙ e) in
        (same_bits-Decides x answer).1 (digits_once x answer (sym dx ∙ (sym same ∙ d)))

    there : same_bits x answer ≡ true → is_eq (digits_order digits other) ≡ true
    there e =
        let same : digits.now ≡ other.now = d ∙ (ap (map bit_digit) (sym ((same_bits-Decides x answer).0 e)) ∙ sym dx) in
        is_eq-slice_cmp digits.now other.now ∙ (bytes_eq-Decides digits.now other.now).1 same

among_more : (begun : List (List Bool)) (answer x : List Bool) → has_answer (begun ++ answer ∷ []) x ≡ (same_bits x answer || has_answer begun x)
among_more [] answer x = refl
among_more (y ∷ begun) answer x = ap (λ b. same_bits x y || b) (among_more begun answer x) ∙ swap_or (same_bits x y) (same_bits x answer) (has_answer begun x)
  where
    swap_or : (a b c : Bool) → (a || (b || c)) ≡ (b || (a || c))
    swap_or true true c = refl
    swap_or true false c = refl
    swap_or false b c = refl

-- ---- the open asks are those above

asked_true : (os : List OpenAsk) (above : List AskAbove) (p : ℕ) → AreOpenAsks os above → asks_pattern os p ≡ true → Contains (patterns_above above) p
asked_true [] [] p are e = absurd (false≢true e)
asked_true [] (a ∷ above) p are e = absurd are
asked_true (o ∷ os) [] p are e = absurd are
asked_true (o ∷ os) (a ∷ above) p are e = by_either (either (o.pattern == p) (asks_pattern os p) e) (asked_true os above p are.1)
  where
    by_either : ((o.pattern == p) ≡ true) ⊎ (asks_pattern os p ≡ true) → (asks_pattern os p ≡ true → Contains (patterns_above above) p) → Contains (a.pattern ∷ patterns_above above) p
    by_either (inl here) later = subst (Contains (a.pattern ∷ patterns_above above)) (sym are.0.pattern_is ∙ eqb-true o.pattern p here) (in_first a.pattern (patterns_above above))
    by_either (inr there) later = in_later a.pattern p (patterns_above above) (later there)

asked_from : (os : List OpenAsk) (above : List AskAbove) (p : ℕ) → AreOpenAsks os above → Contains (patterns_above above) p → asks_pattern os p ≡ true
asked_from [] [] p are among = absurd (omega (arith, among.1))
asked_from [] (a ∷ above) p are among = absurd are
asked_from (o ∷ os) [] p are among = absurd are
asked_from (o ∷ os) (a ∷ above) p are among = by_either (in_first_or_later a.pattern (patterns_above above) p among) (asked_from os above p are.1)
  where
    by_either : (a.pattern ≡ p) ⊎ Contains (patterns_above above) p → (Contains (patterns_above above) p → asks_pattern os p ≡ true) → asks_pattern (o ∷ os) p ≡ true
    by_either (inl here) later = or_left (o.pattern == p) (asks_pattern os p) (eq-eqb o.pattern p (are.0.pattern_is ∙ here))
    by_either (inr there) later = or_right (o.pattern == p) (asks_pattern os p) (later there)

-- ---- what is next

-- if a node is next, what holds before every node holds here
at_node : (n : Next) (so_far : Growth) → IsNextOf n so_far → is_node n ≡ true → (P : Growth → Type 0) → ((above : List AskAbove) → P (before_node above)) → P so_far
at_node next.Node (before_node above) is e P all = all above
at_node next.Node (before_branch above pattern count whole) is e P all = absurd is
at_node next.Node (grown node) is e P all = absurd is
at_node next.Branch so_far is e P all = absurd (false≢true e)
at_node next.Nothing so_far is e P all = absurd (false≢true e)

at_branch : (n : Next) (so_far : Growth) → IsNextOf n so_far → is_branch n ≡ true → (P : Growth → Type 0) → ((above : List AskAbove) (pattern count : ℕ) (whole : Branches) → P (before_branch above pattern count whole)) → P so_far
at_branch next.Branch (before_node above) is e P all = absurd is
at_branch next.Branch (before_branch above pattern count whole) is e P all = all above pattern count whole
at_branch next.Branch (grown node) is e P all = absurd is
at_branch next.Node so_far is e P all = absurd (false≢true e)
at_branch next.Nothing so_far is e P all = absurd (false≢true e)

pub at_end : (n : Next) (so_far : Growth) → IsNextOf n so_far → goes_on n ≡ false → (P : Growth → Type 0) → ((node : PlanNode) → P (grown node)) → P so_far
at_end next.Nothing (before_node above) is e P all = absurd is
at_end next.Nothing (before_branch above pattern count whole) is e P all = absurd is
at_end next.Nothing (grown node) is e P all = all node
at_end next.Node so_far is e P all = absurd (false≢true (sym e))
at_end next.Branch so_far is e P all = absurd (false≢true (sym e))

pub not_grown : (n : Next) (so_far : Growth) → IsNextOf n so_far → goes_on n ≡ true → (whole : PlanNode) → so_far ≡ grown whole → ⊥
not_grown next.Nothing so_far is e whole same = false≢true e
not_grown next.Node so_far is e whole same = subst (IsNextOf next.Node) same is
not_grown next.Branch so_far is e whole same = subst (IsNextOf next.Branch) same is

blocked_node : (n : Next) (so_far : Growth) → IsNextOf n so_far → is_node n ≡ false → (s : Step) → MayComeFirst s → ¬ MayStepCome so_far s
blocked_node next.Node so_far is e s first may = false≢true (sym e)
blocked_node next.Branch (before_node above) is e s first may = is
blocked_node next.Nothing (before_node above) is e s first may = is
blocked_node next.Branch (before_branch above pattern count whole) is e (Ask p n) first may = may
blocked_node next.Branch (before_branch above pattern count whole) is e (On x) first may = first
blocked_node next.Branch (before_branch above pattern count whole) is e (Class c) first may = may
blocked_node next.Nothing (before_branch above pattern count whole) is e s first may = is
blocked_node next.Branch (grown node) is e s first may = may
blocked_node next.Nothing (grown node) is e s first may = may

blocked_branch : (n : Next) (so_far : Growth) → IsNextOf n so_far → is_branch n ≡ false → (answer : List Bool) → ¬ MayStepCome so_far (On answer)
blocked_branch next.Branch so_far is e answer may = false≢true (sym e)
blocked_branch next.Node (before_node above) is e answer may = may
blocked_branch next.Node (before_branch above pattern count whole) is e answer may = is
blocked_branch next.Node (grown node) is e answer may = may
blocked_branch next.Nothing (before_node above) is e answer may = may
blocked_branch next.Nothing (before_branch above pattern count whole) is e answer may = is
blocked_branch next.Nothing (grown node) is e answer may = may

-- ---- lines that are refused

wrong_place : (r : Reader) (s : Step) → (given : IsReadingPlan r) → ¬ MayStepCome given.so_far s → IsWrongLine r.plan (step s) Order
wrong_place r s given blocked =
    may_not_come (λ b. step_misplaced r.plan.positions r.plan.patterns r.plan.classes given.so_far s given.at.room blocked
    (subst (λ (steps : List Step). BeginPlan (lines_with r.plan.positions r.plan.patterns r.plan.classes steps ++ step s ∷ [])) given.steps_are b)) refl

pub right_place : (r : Reader) (s : Step) → (given : IsReadingPlan r) → MayStepCome given.so_far s → BeginPlan (lines_so_far r.plan ++ step s ∷ [])
right_place r s given may =
    subst (λ (steps : List Step). BeginPlan (lines_with r.plan.positions r.plan.patterns r.plan.classes steps ++ step s ∷ [])) (sym given.steps_are)
    (step_begins r.plan.positions r.plan.patterns r.plan.classes given.so_far s given.at.room may)

pub right_values : (plan : Plan) (s : Step) → IsRightStep plan s → IsRightPlanLine (lines_so_far plan) (step s)
right_values plan s right = subst (λ (begun : Plan). IsRightStep begun s) (sym (begun_is plan)) right

wrong_values : (r : Reader) (s : Step) → (given : IsReadingPlan r) → MayStepCome given.so_far s → ¬ IsRightStep r.plan s → IsWrongLine r.plan (step s) Value
wrong_values r s given may wrong = has_wrong_values (right_place r s given may) (λ right. wrong (subst (λ (begun : Plan). IsRightStep begun s) (begun_is r.plan) right)) refl

pub node_blocked : (r : Reader) (s : Step) → IsReadingPlan r → is_node r.next ≡ false → MayComeFirst s → IsWrongLine r.plan (step s) Order
node_blocked r s given e first = wrong_place r s given (blocked_node r.next given.so_far given.at.next_is e s first)

pub branch_blocked : (r : Reader) (answer : List Bool) → IsReadingPlan r → is_branch r.next ≡ false → IsWrongLine r.plan (step (On answer)) Order
branch_blocked r answer given e = wrong_place r (On answer) given (blocked_branch r.next given.so_far given.at.next_is e answer)

pub may_be_first : (r : Reader) (s : Step) → is_node r.next ≡ true → MayComeFirst s → (given : IsReadingPlan r) → MayStepCome given.so_far s
may_be_first r s e first given = at_node r.next given.so_far given.at.next_is e (λ so_far. MayStepCome so_far s) (λ above. first)

pub may_be_branch : (r : Reader) (answer : List Bool) → is_branch r.next ≡ true → (given : IsReadingPlan r) → MayStepCome given.so_far (On answer)
may_be_branch r answer e given = at_branch r.next given.so_far given.at.next_is e (λ so_far. MayStepCome so_far (On answer)) (λ above pattern count whole. tt)

pub node_refused : (r : Reader) (s : Step) → IsReadingPlan r → is_node r.next ≡ true → MayComeFirst s → ¬ IsRightStep r.plan s → IsWrongLine r.plan (step s) Value
node_refused r s given e first wrong = wrong_values r s given (may_be_first r s e first given) wrong

pub branch_refused : (r : Reader) (answer : List Bool) → IsReadingPlan r → is_branch r.next ≡ true → ¬ IsRightBranch r.plan answer → IsWrongLine r.plan (step (On answer)) Value
branch_refused r answer given e wrong = wrong_values r (On answer) given (may_be_branch r answer e given) wrong

pub starts : (steps : List Step) (os : List OpenAsk) (asked : BTreeSet ℕ) → steps ≡ [] → os ≡ [] → asked.keys ≡ [] → HaveCome steps next.Node (reverse os) asked
starts steps os asked none closed empty = record {
  so_far = before_node [];
  steps_are = none;
  at = record {
    room = tt;
    next_is = tt;
    open_are = subst (λ (all : List OpenAsk). AreOpenAsks (reverse all) []) (sym closed) tt;
    asked_is = subst (λ (all : List OpenAsk). IsAskedSet asked (reverse all)) (sym closed) (record { has = λ p. ap (λ (keys : List ℕ). list_any (is_at (nat_cmp p)) keys) empty; once = tt });
  };
}

-- ---- asks

pub asks_again : (r : Reader) (p n : ℕ) → IsReadingPlan r → is_node r.next ≡ true → contains nat_cmp r.asked p ≡ true → ¬ IsRightAsk r.plan p n
asks_again r p n given e asked =
    at_node r.next given.so_far given.at.next_is e (λ so_far. r.plan.steps ≡ steps_so_far so_far → IsRoomy so_far → HasOpenAsks (reverse r.open.items) so_far → ¬ IsRightAsk r.plan p n)
    (λ above are room opens. asked_again r.plan above p n are room (asked_true (reverse r.open.items) above p opens (sym (given.at.asked_is.has p) ∙ asked)))
    given.steps_are given.at.room given.at.open_are

pub asks_first : (r : Reader) (p n : ℕ) → IsReadingPlan r → is_node r.next ≡ true → p < r.plan.patterns → 2 ≤ n → contains nat_cmp r.asked p ≡ false → IsRightNext r (Ask p n)
asks_first r p n given e within several asked = record {
  may = λ other. may_be_first r (Ask p n) e tt other;
  right =
      at_node r.next given.so_far given.at.next_is e (λ so_far. r.plan.steps ≡ steps_so_far so_far → HasOpenAsks (reverse r.open.items) so_far → IsRightAsk r.plan p n)
      (λ above are opens. right_ask r.plan above p n are within (λ among. false≢true (sym asked ∙ (given.at.asked_is.has p ∙ asked_from (reverse r.open.items) above p opens among))) several)
      given.steps_are given.at.open_are;
}

-- ---- branches

innermost_is : (os : List OpenAsk) (above : List AskAbove) (pattern count : ℕ) (whole : Branches) → HasOpenAsks os (before_branch above pattern count whole) → (digits : Bor (List ℕ)) (answer : List Bool) → AreDigitsOf answer digits.now
    → innermost_has os digits ≡ has_answer (branch_answers whole) answer
innermost_is [] above pattern count whole are digits answer d = absurd are
innermost_is (o ∷ os) above pattern count whole are digits answer d = are.0.answers digits answer d

among_from : (answers : List (List Bool)) (answer : List Bool) → Contains answers answer → has_answer answers answer ≡ true
among_from answers answer among = among_at answers answer among.0 among.1 among.2

pub branches_again : (r : Reader) (digits : Bor (List ℕ)) (answer : List Bool) → IsReadingPlan r → is_branch r.next ≡ true → AreDigitsOf answer digits.now → innermost_has (reverse r.open.items) digits ≡ true → ¬ IsRightBranch r.plan answer
branches_again r digits answer given e d has =
    at_branch r.next given.so_far given.at.next_is e (λ so_far. r.plan.steps ≡ steps_so_far so_far → IsRoomy so_far → HasOpenAsks (reverse r.open.items) so_far → ¬ IsRightBranch r.plan answer)
    (λ above pattern count whole are room opens. branched_again r.plan above pattern count whole answer are room.0 (among_in (branch_answers whole) answer (sym (innermost_is (reverse r.open.items) above pattern count whole opens digits answer d) ∙ has)))
    given.steps_are given.at.room given.at.open_are

pub branches_first : (r : Reader) (digits : Bor (List ℕ)) (answer : List Bool) → IsReadingPlan r → is_branch r.next ≡ true → AreDigitsOf answer digits.now → length answer ≡ r.plan.positions → innermost_has (reverse r.open.items) digits ≡ false → IsRightNext r (On answer)
branches_first r digits answer given e d wide has = record {
  may = λ other. may_be_branch r answer e other;
  right =
      at_branch r.next given.so_far given.at.next_is e (λ so_far. r.plan.steps ≡ steps_so_far so_far → IsRoomy so_far → HasOpenAsks (reverse r.open.items) so_far → IsRightBranch r.plan answer)
      (λ above pattern count whole are room opens. right_branch r.plan above pattern count whole answer are room.1 room.0 wide
      (λ among. false≢true (sym has ∙ (innermost_is (reverse r.open.items) above pattern count whole opens digits answer d ∙ among_from (branch_answers whole) answer among))))
      given.steps_are given.at.room given.at.open_are;
}

-- ---- an ask is opened

opened_set : (asked new : BTreeSet ℕ) (o : OpenAsk) (os : List OpenAsk) (p : ℕ) → o.pattern ≡ p → IsAskedSet asked os → asks_pattern os p ≡ false → ((q : ℕ) → contains nat_cmp new q ≡ cond (is_eq (nat_cmp p q)) true (contains nat_cmp asked q)) → IsAskedSet new (o ∷ os)
opened_set asked new o os p same was none updates = record {
  has = λ q. updates q ∙ (by_test q (is_eq (nat_cmp p q)) refl);
  once = (ap (asks_pattern os) same ∙ none, was.once);
}
  where
    by_test : (q : ℕ) (b : Bool) → is_eq (nat_cmp p q) ≡ b → cond (is_eq (nat_cmp p q)) true (contains nat_cmp asked q) ≡ (o.pattern == q || asks_pattern os q)
    by_test q true e = ap (λ b. cond b true (contains nat_cmp asked q)) e ∙ sym (or_left (o.pattern == q) (asks_pattern os q) (eq-eqb o.pattern q (same ∙ nat_cmp_eq p q e)))
    by_test q false e =
        ap (λ b. cond b true (contains nat_cmp asked q)) e
        ∙ (was.has q ∙ ap (λ b. b || asks_pattern os q) (sym (false_from_ne_true (o.pattern == q) (λ t. false≢true (sym e ∙ nat_cmp_same p q (sym same ∙ eqb-true o.pattern q t))))))

pub ask_added : (steps : List Step) (n : Next) (os : List OpenAsk) (asked new : BTreeSet ℕ) (plan : Plan) (o : OpenAsk) (p k : ℕ) → plan.steps ≡ steps → (given : HaveCome steps n os asked) → MayStepCome given.so_far (Ask p k) → IsRightAsk plan p k
    → IsOpenAsk o p k [] → ((q : ℕ) → contains nat_cmp new q ≡ cond (is_eq (nat_cmp p q)) true (contains nat_cmp asked q)) → HaveCome (steps ++ Ask p k ∷ []) next.Branch (o ∷ os) new
ask_added steps n os asked new plan o p k are given may right opened updates = by_growth given.so_far given.steps_are given.at may
  where
    by_growth : (so_far : Growth) → steps ≡ steps_so_far so_far → IsOpenAt n os asked so_far → MayStepCome so_far (Ask p k) → HaveCome (steps ++ Ask p k ∷ []) next.Branch (o ∷ os) new
    by_growth (before_node above) come at may =
        let fresh : asks_pattern os p ≡ false = false_from_ne_true (asks_pattern os p) (λ e. asked_again plan above p k (are ∙ come) at.room (asked_true os above p at.open_are e) right) in
        record {
          so_far = before_branch above p k no_branch;
          steps_are = ap (λ (all : List Step). all ++ Ask p k ∷ []) come;
          at = record { room = (omega (arith, right.several), at.room); next_is = tt; open_are = (opened, at.open_are); asked_is = opened_set asked new o os p opened.pattern_is at.asked_is fresh updates };
        }
    by_growth (before_branch above pattern count whole) come at may = absurd may
    by_growth (grown node) come at may = absurd may

-- ---- a branch is begun

begun_more : (o new : OpenAsk) (p k : ℕ) (begun : List (List Bool)) (digits : Bor (List ℕ)) (answer : List Bool) → AreDigitsOf answer digits.now → IsOpenAsk o p k begun → HasBegun o new digits → IsOpenAsk new p k (begun ++ answer ∷ [])
begun_more o new p k begun digits answer d was has = record {
  pattern_is = has.pattern_is ∙ was.pattern_is;
  left_is = omega (arith, has.left_is, was.left_is, length-append begun (answer ∷ []));
  answers = λ other x dx.
      has.answers other
      ∙ (ap (λ b. is_eq (digits_order digits other) || b) (was.answers other x dx)
      ∙ (ap (λ b. b || has_answer begun x) (same_digits digits other answer x d dx)
      ∙ sym (among_more begun answer x)));
}

pub branch_added : (steps : List Step) (n : Next) (o new : OpenAsk) (os : List OpenAsk) (asked : BTreeSet ℕ) (digits : Bor (List ℕ)) (answer : List Bool) → (given : HaveCome steps n (o ∷ os) asked) → MayStepCome given.so_far (On answer) → AreDigitsOf answer digits.now
    → HasBegun o new digits → HaveCome (steps ++ On answer ∷ []) next.Node (new ∷ os) asked
branch_added steps n o new os asked digits answer given may d has = by_growth given.so_far given.steps_are given.at may
  where
    by_growth : (so_far : Growth) → steps ≡ steps_so_far so_far → IsOpenAt n (o ∷ os) asked so_far → MayStepCome so_far (On answer) → HaveCome (steps ++ On answer ∷ []) next.Node (new ∷ os) asked
    by_growth (before_node above) come at may = absurd may
    by_growth (before_branch above p k whole) come at may = record {
      so_far = before_node (record { pattern = p; count = k; whole = whole; answer = answer } ∷ above);
      steps_are = ap (λ (all : List Step). all ++ On answer ∷ []) come;
      at = record {
        room = at.room;
        next_is = tt;
        open_are = (begun_more o new p k (branch_answers whole) digits answer d at.open_are.0 has, at.open_are.1);
        asked_is = record {
          has = λ q. at.asked_is.has q ∙ ap (λ (m : ℕ). (m == q) || asks_pattern os q) (sym has.pattern_is);
          once = (ap (asks_pattern os) has.pattern_is ∙ at.asked_is.once.0, at.asked_is.once.1);
        };
      };
    }
    by_growth (grown node) come at may = absurd may

pub left_some : (steps : List Step) (n : Next) (o : OpenAsk) (os : List OpenAsk) (asked : BTreeSet ℕ) (answer : List Bool) → (given : HaveCome steps n (o ∷ os) asked) → MayStepCome given.so_far (On answer) → 0 < o.left
left_some steps n o os asked answer given may = by_growth given.so_far given.at may
  where
    by_growth : (so_far : Growth) → IsOpenAt n (o ∷ os) asked so_far → MayStepCome so_far (On answer) → 0 < o.left
    by_growth (before_node above) at may = absurd may
    by_growth (before_branch above p k whole) at may = omega (arith, at.room.0, at.open_are.0.left_is)
    by_growth (grown node) at may = absurd may

pub some_open : (steps : List Step) (n : Next) (os : List OpenAsk) (asked : BTreeSet ℕ) (answer : List Bool) → (given : HaveCome steps n os asked) → MayStepCome given.so_far (On answer) → os ≡ [] → ⊥
some_open steps n os asked answer given may none = by_growth given.so_far (subst (λ (all : List OpenAsk). HasOpenAsks all given.so_far) none given.at.open_are) may
  where
    by_growth : (so_far : Growth) → HasOpenAsks [] so_far → MayStepCome so_far (On answer) → ⊥
    by_growth (before_node above) opens may = may
    by_growth (before_branch above p k whole) opens may = opens
    by_growth (grown node) opens may = may

-- ---- a node has ended

pub class_ended : (steps : List Step) (n : Next) (os : List OpenAsk) (asked : BTreeSet ℕ) (class : ℕ) → (given : HaveCome steps n os asked) → MayStepCome given.so_far (Class class) → HasNodeEnded (steps ++ Class class ∷ []) os asked
class_ended steps n os asked class given may = by_growth given.so_far given.steps_are given.at may
  where
    by_growth : (so_far : Growth) → steps ≡ steps_so_far so_far → IsOpenAt n os asked so_far → MayStepCome so_far (Class class) → HasNodeEnded (steps ++ Class class ∷ []) os asked
    by_growth (before_node above) come at may = record { above = above; node = leaf class; steps_are = ap (λ (all : List Step). all ++ Class class ∷ []) come; room = at.room; open_are = at.open_are; asked_is = at.asked_is }
    by_growth (before_branch above p k whole) come at may = absurd may
    by_growth (grown node) come at may = absurd may

closed_set : (asked new : BTreeSet ℕ) (o : OpenAsk) (os : List OpenAsk) (p : ℕ) → o.pattern ≡ p → IsAskedSet asked (o ∷ os) → ((q : ℕ) → contains nat_cmp new q ≡ cond (is_eq (nat_cmp p q)) false (contains nat_cmp asked q)) → IsAskedSet new os
closed_set asked new o os p same was updates = record { has = λ q. updates q ∙ by_test q (is_eq (nat_cmp p q)) refl; once = was.once.1 }
  where
    by_test : (q : ℕ) (b : Bool) → is_eq (nat_cmp p q) ≡ b → cond (is_eq (nat_cmp p q)) false (contains nat_cmp asked q) ≡ asks_pattern os q
    by_test q true e = ap (λ b. cond b false (contains nat_cmp asked q)) e ∙ (sym was.once.0 ∙ ap (asks_pattern os) (same ∙ nat_cmp_eq p q e))
    by_test q false e =
        ap (λ b. cond b false (contains nat_cmp asked q)) e
        ∙ (was.has q ∙ ap (λ b. b || asks_pattern os q) (false_from_ne_true (o.pattern == q) (λ t. false≢true (sym e ∙ nat_cmp_same p q (sym same ∙ eqb-true o.pattern q t)))))

pub node_closed : (steps : List Step) (o : OpenAsk) (os : List OpenAsk) (asked new : BTreeSet ℕ) (p : ℕ) → IsInnermostWhole (o ∷ os) p → HasNodeEnded steps (o ∷ os) asked → ((q : ℕ) → contains nat_cmp new q ≡ cond (is_eq (nat_cmp p q)) false (contains nat_cmp asked q)) → HasNodeEnded steps os new
node_closed steps o os asked new p whole ended updates = by_above ended.above ended.steps_are ended.room ended.open_are
  where
    by_above : (above : List AskAbove) → steps ≡ steps_above above ++ node_steps ended.node → HaveRoom above → AreOpenAsks (o ∷ os) above → HasNodeEnded steps os new
    by_above [] come room are = absurd are
    by_above (a ∷ above) come room are =
        let branches : Branches = push_branch a.whole a.answer ended.node in
        let count : length (branch_answers branches) ≡ a.count
        = omega (arith, ap (λ (xs : List (List Bool)). length xs) (push_answers a.whole a.answer ended.node), length-append (branch_answers a.whole) (a.answer ∷ []), are.0.left_is, whole.0) in
        record {
          above = above;
          node = ask a.pattern branches;
          steps_are = come ∙ (sym (pushed_place (steps_above above) a.pattern a.count a.whole a.answer ended.node) ∙ ap (λ (k : ℕ). steps_above above ++ Ask a.pattern k ∷ branch_steps branches) (sym count));
          room = room.1;
          open_are = are.1;
          asked_is = closed_set asked new o os p whole.1 ended.asked_is updates;
        }

pub nothing_open : (steps : List Step) (asked : BTreeSet ℕ) → HasNodeEnded steps [] asked → HaveCome steps next.Nothing [] asked
nothing_open steps asked ended = by_above ended.above ended.steps_are ended.open_are
  where
    by_above : (above : List AskAbove) → steps ≡ steps_above above ++ node_steps ended.node → AreOpenAsks [] above → HaveCome steps next.Nothing [] asked
    by_above [] come are = record { so_far = grown ended.node; steps_are = come; at = record { room = tt; next_is = tt; open_are = refl; asked_is = ended.asked_is } }
    by_above (a ∷ above) come are = absurd are

pub branch_open : (steps : List Step) (o : OpenAsk) (os : List OpenAsk) (asked : BTreeSet ℕ) → 0 < o.left → HasNodeEnded steps (o ∷ os) asked → HaveCome steps next.Branch (o ∷ os) asked
branch_open steps o os asked some ended = by_above ended.above ended.steps_are ended.room ended.open_are
  where
    by_above : (above : List AskAbove) → steps ≡ steps_above above ++ node_steps ended.node → HaveRoom above → AreOpenAsks (o ∷ os) above → HaveCome steps next.Branch (o ∷ os) asked
    by_above [] come room are = absurd are
    by_above (a ∷ above) come room are =
        let branches : Branches = push_branch a.whole a.answer ended.node in
        let answers : branch_answers branches ≡ branch_answers a.whole ++ a.answer ∷ [] = push_answers a.whole a.answer ended.node in
        record {
          so_far = before_branch above a.pattern a.count branches;
          steps_are = come ∙ sym (pushed_place (steps_above above) a.pattern a.count a.whole a.answer ended.node);
          at = record {
            room = (omega (arith, some, are.0.left_is, ap (λ (xs : List (List Bool)). length xs) answers), room.1);
            next_is = tt;
            open_are = (subst (IsOpenAsk o a.pattern a.count) (sym answers) are.0, are.1);
            asked_is = ended.asked_is;
          };
        }

-- ---- as lists that grow and shrink at the end

reversed : (items : List OpenAsk) (o : OpenAsk) → reverse (items ++ o ∷ []) ≡ o ∷ reverse items
reversed items o = reverse-append items (o ∷ [])

fresh_ask : (p k : ℕ) (answers : BTreeSet (Bor (List ℕ))) → answers.keys ≡ [] → IsOpenAsk (record { pattern = p; left = k; answers = answers }) p k []
fresh_ask p k answers empty = record {
  pattern_is = refl;
  left_is = omega arith;
  answers = λ digits answer d. ap (λ (keys : List (Bor (List ℕ))). list_any (is_at (digits_order digits)) keys) empty;
}

pub ask_come : (old : Reader) (steps : List Step) (items : List OpenAsk) (asked : BTreeSet ℕ) (answers : BTreeSet (Bor (List ℕ))) (p k : ℕ) → IsReadingPlan old → IsRightNext old (Ask p k) → steps ≡ old.plan.steps ++ Ask p k ∷ []
    → items ≡ old.open.items ++ record { pattern = p; left = k; answers = answers } ∷ [] → answers.keys ≡ [] → ((q : ℕ) → contains nat_cmp asked q ≡ cond (is_eq (nat_cmp p q)) true (contains nat_cmp old.asked q)) → HaveCome steps next.Branch (reverse items) asked
ask_come old steps items asked answers p k given right steps_are items_are empty updates =
    let o : OpenAsk = record { pattern = p; left = k; answers = answers } in
    subst (λ (all : List Step). HaveCome all next.Branch (reverse items) asked) (sym steps_are)
    (subst (λ (os : List OpenAsk). HaveCome (old.plan.steps ++ Ask p k ∷ []) next.Branch os asked) (sym (ap reverse items_are ∙ reversed old.open.items o))
    (ask_added old.plan.steps old.next (reverse old.open.items) old.asked asked old.plan o p k refl given (right.may given) right.right (fresh_ask p k answers empty) updates))

pub branch_left : (old : Reader) (answer : List Bool) → IsReadingPlan old → IsRightNext old (On answer) → HasBranchLeft (reverse old.open.items)
branch_left old answer given right = by_asks (reverse old.open.items) given (right.may given)
  where
    by_asks : (os : List OpenAsk) → (come : HaveCome old.plan.steps old.next os old.asked) → MayStepCome come.so_far (On answer) → HasBranchLeft os
    by_asks [] come may = some_open old.plan.steps old.next [] old.asked answer come may refl
    by_asks (o ∷ os) come may = left_some old.plan.steps old.next o os old.asked answer come may

pub branch_come : (old : Reader) (steps : List Step) (items : List OpenAsk) (digits : Bor (List ℕ)) (answer : List Bool) → IsReadingPlan old → IsRightNext old (On answer) → AreDigitsOf answer digits.now → steps ≡ old.plan.steps ++ On answer ∷ []
    → IsInnermostBegun (reverse old.open.items) (reverse items) digits → HaveCome steps next.Node (reverse items) old.asked
branch_come old steps items digits answer given right d steps_are begun =
    subst (λ (all : List Step). HaveCome all next.Node (reverse items) old.asked) (sym steps_are)
    (subst (λ (os : List OpenAsk). HaveCome (old.plan.steps ++ On answer ∷ []) next.Node os old.asked) (sym begun.new_is) (by_asks (reverse old.open.items) begun.old_is given (right.may given)))
  where
    by_asks : (os : List OpenAsk) → os ≡ begun.before ∷ begun.others → (come : HaveCome old.plan.steps old.next os old.asked) → MayStepCome come.so_far (On answer) → HaveCome (old.plan.steps ++ On answer ∷ []) next.Node (begun.after ∷ begun.others) old.asked
    by_asks os same =
        subst (λ (all : List OpenAsk). (come : HaveCome old.plan.steps old.next all old.asked) → MayStepCome come.so_far (On answer) → HaveCome (old.plan.steps ++ On answer ∷ []) next.Node (begun.after ∷ begun.others) old.asked) (sym same)
        (λ come may. branch_added old.plan.steps old.next begun.before begun.after begun.others old.asked digits answer come may d begun.begun)

pub class_come : (old : Reader) (steps : List Step) (class : ℕ) → IsReadingPlan old → IsRightNext old (Class class) → steps ≡ old.plan.steps ++ Class class ∷ [] → HasNodeEnded steps (reverse old.open.items) old.asked
class_come old steps class given right steps_are =
    subst (λ (all : List Step). HasNodeEnded all (reverse old.open.items) old.asked) (sym steps_are) (class_ended old.plan.steps old.next (reverse old.open.items) old.asked class given (right.may given))

-- the innermost ask was popped
popped : (items fewer : List OpenAsk) (r : Option OpenAsk) (n m : ℕ) → n ≡ length items → items ≡ fewer ++ option_to_list r → MatchOption r ((n ≡ 0) × (m ≡ 0)) (λ _. m + 1 ≡ n) → (length items ≡ 0) ⊎ ((o : OpenAsk) × (reverse items ≡ o ∷ reverse fewer))
popped items fewer None n m size are sizes = inl (sym size ∙ sizes.0)
popped items fewer (Some o) n m size are sizes = inr (o, ap reverse are ∙ reversed fewer o)

pub ask_closed : (steps : List Step) (items fewer : List OpenAsk) (r : Option OpenAsk) (asked new : BTreeSet ℕ) (p n m : ℕ) → n ≡ length items → items ≡ fewer ++ option_to_list r → MatchOption r ((n ≡ 0) × (m ≡ 0)) (λ _. m + 1 ≡ n)
    → IsInnermostWhole (reverse items) p → HasNodeEnded steps (reverse items) asked → ((q : ℕ) → contains nat_cmp new q ≡ cond (is_eq (nat_cmp p q)) false (contains nat_cmp asked q)) → HasNodeEnded steps (reverse fewer) new
ask_closed steps items fewer r asked new p n m size are sizes whole ended updates = by_case (popped items fewer r n m size are sizes)
  where
    by_case : (length items ≡ 0) ⊎ ((o : OpenAsk) × (reverse items ≡ o ∷ reverse fewer)) → HasNodeEnded steps (reverse fewer) new
    by_case (inl none) = absurd (subst (λ (all : List OpenAsk). IsInnermostWhole (reverse all) p) (nil_from_length items none) whole)
    by_case (inr found) = node_closed steps found.0 (reverse fewer) asked new p (subst (λ (os : List OpenAsk). IsInnermostWhole os p) found.1 whole) (subst (λ (os : List OpenAsk). HasNodeEnded steps os asked) found.1 ended) updates

pub all_closed : (steps : List Step) (items : List OpenAsk) (asked : BTreeSet ℕ) → length items ≡ 0 → HasNodeEnded steps (reverse items) asked → HaveCome steps next.Nothing (reverse items) asked
all_closed steps items asked none ended =
    let closed : reverse items ≡ [] = ap reverse (nil_from_length items none) in
    subst (λ (os : List OpenAsk). HaveCome steps next.Nothing os asked) (sym closed) (nothing_open steps asked (subst (λ (os : List OpenAsk). HasNodeEnded steps os asked) closed ended))

pub some_left : (steps : List Step) (items : List OpenAsk) (asked : BTreeSet ℕ) → (length items ≡ 0 → ⊥) → IsInnermostOpen (reverse items) → HasNodeEnded steps (reverse items) asked → HaveCome steps next.Branch (reverse items) asked
some_left steps items asked some left ended = by_asks (reverse items) (λ none. some (sym (length-reverse items) ∙ none)) left ended
  where
    by_asks : (os : List OpenAsk) → (length os ≡ 0 → ⊥) → IsInnermostOpen os → HasNodeEnded steps os asked → HaveCome steps next.Branch os asked
    by_asks [] none open_one last = absurd (none refl)
    by_asks (o ∷ os) none open_one last = branch_open steps o os asked open_one last
