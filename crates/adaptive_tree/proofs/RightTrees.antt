-- If the values of a plan are right down its tree, each of its lines is right after those before it.
use Rattle.std.proofs.Common.{◌≡◌, ◌∙◌, ℕ, zero, suc, ◌+◌, ◌<◌, refl, ap, sym, subst, arith, append_assoc, append-nil, length-append, inl, inr}
use Rattle.std.specs.Prelude.{Bool, true, false, not, ◌&&◌, ◌||◌, ◌==◌, List, [], ◌∷◌, ◌++◌, length, ◌⊎◌, Option, None, Some, IfSome, option_map, option_and_then, Contains, map, take}
use Rattle.std.specs.Option.{option_map_or}
use Rattle.std.proofs.lemmas.Bool.{false≢true, false_from_ne_true, eqb-true}
use Rattle.std.proofs.lemmas.List.Sums.{fold-append}
use Rattle.net_model.specs.ClassTable.{same_bits}
use Rattle.dict_rows.proofs.EntryLemmas.{same_bits-Decides}
use Rattle.adaptive_tree.specs.declared.steps.Step.{Step}
use Rattle.adaptive_tree.specs.declared.steps.Step.TheVariants.{Ask, On}
use Rattle.adaptive_tree.specs.declared.steps.Plan.{Plan}
use Rattle.adaptive_tree.specs.PlanNode.{PlanNode, Branches, leaf, ask, no_branch, branch, branch_answers, node_steps, branch_steps}
use Rattle.adaptive_tree.specs.PlanText.{PlanLine, head, step, end, plan_lines}
use Rattle.adaptive_tree.specs.WellFormed.{IsRightStep, IsRightPlanLine, plan_begun, no_plan, with_line, line_at}
use Rattle.adaptive_tree.specs.Growth.{ask_steps, has_answer}
use Rattle.adaptive_tree.specs.RightNode.{IsRightNode, AreRightBranches}
use Rattle.adaptive_tree.specs.Laws.{RightTreesAreWellFormed}
use Rattle.adaptive_tree.proofs.NodeReading.{node_by, branches_by, node_stands, begins_node, begins_true, one_node, IsRead, with_pattern, with_branch, tallest_fits}
use Rattle.adaptive_tree.proofs.StepTests.{asked_above, not_asked, answers_by, has_branch, no_branch_yet, answers_are}

-- ---- whole nodes have no open ask

mutual
  node_asks_none : (node : PlanNode) (rest : List Step) (pattern : ℕ) → asked_above (node_steps node ++ rest) pattern ≡ asked_above rest pattern
  node_asks_none (leaf class) rest pattern = refl
  node_asks_none (ask other branches) rest pattern =
      ap (λ b. (not b && other == pattern) || asked_above (branch_steps branches ++ rest) pattern) (begins_true (node_steps (ask other branches) ++ rest) (record { node = ask other branches; rest = rest; steps_are = refl }))
      ∙ branches_ask_none branches rest pattern

  branches_ask_none : (branches : Branches) (rest : List Step) (pattern : ℕ) → asked_above (branch_steps branches ++ rest) pattern ≡ asked_above rest pattern
  branches_ask_none no_branch rest pattern = refl
  branches_ask_none (branch answer node others) rest pattern =
      ap (λ steps. asked_above steps pattern) (append_assoc (node_steps node) (branch_steps others) rest) ∙ (node_asks_none node (branch_steps others ++ rest) pattern ∙ branches_ask_none others rest pattern)

mutual
  node_has_none : (node : PlanNode) (rest : List Step) (answer : List Bool) → has_branch (node_steps node ++ rest) answer ≡ has_branch rest answer
  node_has_none (leaf class) rest answer = refl
  node_has_none (ask other branches) rest answer =
      let steps : List Step = branch_steps branches ++ rest in
      ap (λ b. (not b && option_map_or (λ answers. has_answer answers answer) (answers_by (node_by (length steps)) (length steps) steps) false) || has_branch steps answer)
      (begins_true (node_steps (ask other branches) ++ rest) (record { node = ask other branches; rest = rest; steps_are = refl }))
      ∙ branches_have_none branches rest answer

  branches_have_none : (branches : Branches) (rest : List Step) (answer : List Bool) → has_branch (branch_steps branches ++ rest) answer ≡ has_branch rest answer
  branches_have_none no_branch rest answer = refl
  branches_have_none (branch other node others) rest answer =
      ap (λ steps. has_branch steps answer) (append_assoc (node_steps node) (branch_steps others) rest) ∙ (node_has_none node (branch_steps others ++ rest) answer ∙ branches_have_none others rest answer)

-- ---- what is read after whole branches

-- No node is read.
abbrev pub Unread : List Step → Type 0
Unread steps = (fuel : ℕ) → node_by fuel steps ≡ None

-- No branch is read.
abbrev pub HasNoBranch : List Step → Type 0
HasNoBranch steps = (fuel n : ℕ) → branches_by (node_by fuel) (suc n) steps ≡ None

read_or_none : {B : Type 0} (node : PlanNode) (rest : List Step) (next : PlanNode × List Step → Option B) (o : Option (PlanNode × List Step)) → IfSome o (IsRead (node_steps node ++ rest)) → next (node, rest) ≡ None → option_and_then next o ≡ None
read_or_none node rest next None is none = refl
read_or_none node rest next (Some x) is none =
    let same : (node ≡ x.0) × (rest ≡ x.1) = one_node node x.0 rest x.1 is in
    ap (λ n. next (n, x.1)) (sym same.0) ∙ (ap (λ r. next (node, r)) (sym same.1) ∙ none)

too_few : (branches : Branches) (n : ℕ) (rest : List Step) → length (branch_answers branches) < n → HasNoBranch rest → (fuel : ℕ) → branches_by (node_by fuel) n (branch_steps branches ++ rest) ≡ None
too_few branches zero rest few none fuel = absurd (omega (arith, few))
too_few no_branch (suc n) rest few none fuel = none fuel n
too_few (branch answer node others) (suc n) rest few none fuel =
    ap (λ steps. option_and_then (λ (x : PlanNode × List Step). option_map (with_branch answer x.0) (branches_by (node_by fuel) n x.1)) (node_by fuel steps)) (append_assoc (node_steps node) (branch_steps others) rest)
    ∙ read_or_none node (branch_steps others ++ rest) (λ x. option_map (with_branch answer x.0) (branches_by (node_by fuel) n x.1)) (node_by fuel (node_steps node ++ (branch_steps others ++ rest)))
    (node_stands fuel (node_steps node ++ (branch_steps others ++ rest)))
    (ap (option_map (with_branch answer node)) (too_few others n rest (omega (arith, few)) none fuel))

pub ask_unread : (pattern n : ℕ) (branches : Branches) (rest : List Step) → length (branch_answers branches) < n → HasNoBranch rest → Unread (Ask pattern n ∷ (branch_steps branches ++ rest))
ask_unread pattern n branches rest few none zero = refl
ask_unread pattern n branches rest few none (suc fuel) = ap (option_map (with_pattern pattern)) (too_few branches n rest few none fuel)

pub none_behind_on : (answer : List Bool) (steps : List Step) → Unread steps → HasNoBranch (On answer ∷ steps)
none_behind_on answer steps unread fuel n = ap (option_and_then (λ (x : PlanNode × List Step). option_map (with_branch answer x.0) (branches_by (node_by fuel) n x.1))) (unread fuel)

no_answers : (branches : Branches) (answer : List Bool) (steps : List Step) → Unread steps → (fuel n : ℕ) → answers_by (node_by fuel) n (branch_steps branches ++ On answer ∷ steps) ≡ None
no_answers no_branch answer steps unread fuel zero = refl
no_answers no_branch answer steps unread fuel (suc n) = ap (option_and_then (λ (x : PlanNode × List Step). option_map (λ answers. answer ∷ answers) (answers_by (node_by fuel) n x.1))) (unread fuel)
no_answers (branch other node others) answer steps unread fuel zero = refl
no_answers (branch other node others) answer steps unread fuel (suc n) =
    let rest : List Step = branch_steps others ++ On answer ∷ steps in
    ap (λ all. option_and_then (λ (x : PlanNode × List Step). option_map (λ answers. other ∷ answers) (answers_by (node_by fuel) n x.1)) (node_by fuel all)) (append_assoc (node_steps node) (branch_steps others) (On answer ∷ steps))
    ∙ read_or_none node rest (λ x. option_map (λ answers. other ∷ answers) (answers_by (node_by fuel) n x.1)) (node_by fuel (node_steps node ++ rest)) (node_stands fuel (node_steps node ++ rest))
    (ap (option_map (λ answers. other ∷ answers)) (no_answers others answer steps unread fuel n))

-- ---- what the steps before a place leave open

-- Whatever follows, the asks among these steps that are open then ask only these patterns.
abbrev pub OnlyAsk : List Step → List ℕ → Type 0
OnlyAsk front above = (rest : List Step) (pattern : ℕ) → asked_above (front ++ rest) pattern ≡ true → Contains above pattern ⊎ (asked_above rest pattern ≡ true)

-- If no node is read from what follows, no ask among these steps has a branch for an answer.
abbrev pub NoneHas : List Step → Type 0
NoneHas front = (rest : List Step) → Unread rest → (answer : List Bool) → has_branch (front ++ rest) answer ≡ true → has_branch rest answer ≡ true

pub either : (a b : Bool) → (a || b) ≡ true → (a ≡ true) ⊎ (b ≡ true)
either true b e = inl refl
either false b e = inr e

both_right : (a b : Bool) → (a && b) ≡ true → b ≡ true
both_right true b e = e
both_right false b e = absurd (false≢true e)

pub in_first : {A : Type 0} (x : A) (xs : List A) → Contains (x ∷ xs) x
in_first x xs = (0, omega arith, refl)

pub in_later : {A : Type 0} (x y : A) (xs : List A) → Contains xs y → Contains (x ∷ xs) y
in_later x y xs among = (suc among.0, omega (arith, among.1), among.2)

pub in_first_or_later : {A : Type 0} (x : A) (xs : List A) (y : A) → Contains (x ∷ xs) y → (x ≡ y) ⊎ Contains xs y
in_first_or_later x xs y (zero, low, e) = inl e
in_first_or_later x xs y (suc k, low, e) = inr (k, omega (arith, low), e)

-- the branches and one more
abbrev pub push_branch : Branches → List Bool → PlanNode → Branches
push_branch no_branch answer node = branch answer node no_branch
push_branch (branch other first others) answer node = branch other first (push_branch others answer node)

push_steps : (branches : Branches) (answer : List Bool) (node : PlanNode) → branch_steps (push_branch branches answer node) ≡ branch_steps branches ++ On answer ∷ node_steps node
push_steps no_branch answer node = ap (λ steps. On answer ∷ steps) (append-nil (node_steps node))
push_steps (branch other first others) answer node =
    ap (λ steps. On other ∷ (node_steps first ++ steps)) (push_steps others answer node) ∙ ap (λ steps. On other ∷ steps) (sym (append_assoc (node_steps first) (branch_steps others) (On answer ∷ node_steps node)))

pub push_answers : (branches : Branches) (answer : List Bool) (node : PlanNode) → branch_answers (push_branch branches answer node) ≡ branch_answers branches ++ answer ∷ []
push_answers no_branch answer node = refl
push_answers (branch other first others) answer node = ap (λ answers. other ∷ answers) (push_answers others answer node)

first_or_later : (answers : List (List Bool)) (first answer : List Bool) → (has_answer answers answer ≡ true → Contains answers answer) → (same_bits answer first ≡ true) ⊎ (has_answer answers answer ≡ true) → Contains (first ∷ answers) answer
first_or_later answers first answer rest (inl same) = (0, omega arith, sym ((same_bits-Decides answer first).0 same))
first_or_later answers first answer rest (inr later) = in_later first answer answers (rest later)

pub among_in : (answers : List (List Bool)) (answer : List Bool) → has_answer answers answer ≡ true → Contains answers answer
among_in [] answer e = absurd (false≢true e)
among_in (first ∷ answers) answer e = first_or_later answers first answer (among_in answers answer) (either (same_bits answer first) (has_answer answers answer) e)

-- ---- after an ask and some whole branches, and after the next branch's line

pub on_steps : (front : List Step) (pattern n : ℕ) (whole : Branches) (answer : List Bool) (rest : List Step)
    → ((front ++ ask_steps pattern n whole) ++ On answer ∷ []) ++ rest ≡ front ++ Ask pattern n ∷ (branch_steps whole ++ On answer ∷ rest)
on_steps front pattern n whole answer rest =
    append_assoc (front ++ ask_steps pattern n whole) (On answer ∷ []) rest ∙ (append_assoc front (ask_steps pattern n whole) (On answer ∷ rest))

abbrev own_ask : ℕ → ℕ → List Step → ℕ → Bool
own_ask pattern n steps other = not (begins_node (Ask pattern n ∷ steps)) && pattern == other

by_own : (above : List ℕ) (pattern n : ℕ) (whole : Branches) (answer : List Bool) (rest : List Step) (other : ℕ) → (own_ask pattern n (branch_steps whole ++ On answer ∷ rest) other ≡ true) ⊎ (asked_above (branch_steps whole ++ On answer ∷ rest) other ≡ true)
    → Contains (pattern ∷ above) other ⊎ (asked_above rest other ≡ true)
by_own above pattern n whole answer rest other (inl here) =
    let same : pattern ≡ other = eqb-true pattern other (both_right (not (begins_node (Ask pattern n ∷ (branch_steps whole ++ On answer ∷ rest)))) (pattern == other) here) in
    inl (subst (Contains (pattern ∷ above)) same (in_first pattern above))
by_own above pattern n whole answer rest other (inr later) = inr (sym (branches_ask_none whole (On answer ∷ rest) other) ∙ later)

by_front : (above : List ℕ) (pattern n : ℕ) (whole : Branches) (answer : List Bool) (rest : List Step) (other : ℕ) → Contains above other ⊎ (asked_above (Ask pattern n ∷ (branch_steps whole ++ On answer ∷ rest)) other ≡ true)
    → Contains (pattern ∷ above) other ⊎ (asked_above rest other ≡ true)
by_front above pattern n whole answer rest other (inl among) = inl (in_later pattern other above among)
by_front above pattern n whole answer rest other (inr unfinished) =
    by_own above pattern n whole answer rest other (either (own_ask pattern n (branch_steps whole ++ On answer ∷ rest) other) (asked_above (branch_steps whole ++ On answer ∷ rest) other) unfinished)

pub asks_in : (front : List Step) (above : List ℕ) (pattern n : ℕ) (whole : Branches) (answer : List Bool) → OnlyAsk front above → OnlyAsk ((front ++ ask_steps pattern n whole) ++ On answer ∷ []) (pattern ∷ above)
asks_in front above pattern n whole answer only rest other e =
    by_front above pattern n whole answer rest other (only (Ask pattern n ∷ (branch_steps whole ++ On answer ∷ rest)) other (sym (ap (λ steps. asked_above steps other) (on_steps front pattern n whole answer rest)) ∙ e))

none_read : (b : Bool) (o : Option (List (List Bool))) (answer : List Bool) (y : Bool) → o ≡ None → ((not b && option_map_or (λ answers. has_answer answers answer) o false) || y) ≡ true → y ≡ true
none_read true o answer y none e = e
none_read false o answer y none e = subst (λ x. (option_map_or (λ answers. has_answer answers answer) x false || y) ≡ true) none e

pub has_in : (front : List Step) (pattern n : ℕ) (whole : Branches) (answer : List Bool) → length (branch_answers whole) < n → NoneHas front → NoneHas ((front ++ ask_steps pattern n whole) ++ On answer ∷ [])
has_in front pattern n whole answer few none rest unread other e =
    let behind : List Step = branch_steps whole ++ On answer ∷ rest in
    let unfinished : Unread (Ask pattern n ∷ behind) = ask_unread pattern n whole (On answer ∷ rest) few (none_behind_on answer rest unread) in
    let here : has_branch (Ask pattern n ∷ behind) other ≡ true = none (Ask pattern n ∷ behind) unfinished other (sym (ap (λ steps. has_branch steps other) (on_steps front pattern n whole answer rest)) ∙ e) in
    let later : has_branch behind other ≡ true = none_read (begins_node (Ask pattern n ∷ behind)) (answers_by (node_by (length behind)) (length behind) behind) other (has_branch behind other) (no_answers whole answer rest unread (length behind) (length behind)) here in
    sym (branches_have_none whole (On answer ∷ rest) other) ∙ later

-- an ask with whole branches has none for another answer
branch_in : (pattern n : ℕ) (whole : Branches) (answer : List Bool) → has_branch (ask_steps pattern n whole) answer ≡ true → Contains (branch_answers whole) answer
branch_in pattern n whole answer e =
    let steps : List Step = branch_steps whole in
    let are : answers_by (node_by (length steps)) (length steps) steps ≡ Some (branch_answers whole) = answers_are whole (length steps) (length steps) (tallest_fits whole) (omega arith) in
    let rest : has_branch steps answer ≡ false = ap (λ s. has_branch s answer) (sym (append-nil steps)) ∙ branches_have_none whole [] answer in
    by_own_or_rest (begins_node (Ask pattern n ∷ steps)) (answers_by (node_by (length steps)) (length steps) steps) (has_branch steps answer) are rest e
  where
    by_among : (b : Bool) → (b && has_answer (branch_answers whole) answer) ≡ true → Contains (branch_answers whole) answer
    by_among b both = among_in (branch_answers whole) answer (both_right b (has_answer (branch_answers whole) answer) both)

    by_either : (b : Bool) → ((b && has_answer (branch_answers whole) answer) ≡ true) ⊎ (false ≡ true) → Contains (branch_answers whole) answer
    by_either b (inl both) = by_among b both
    by_either b (inr none) = absurd (false≢true none)

    by_own_or_rest : (b : Bool) (o : Option (List (List Bool))) (y : Bool) → o ≡ Some (branch_answers whole) → y ≡ false
        → ((not b && option_map_or (λ answers. has_answer answers answer) o false) || y) ≡ true → Contains (branch_answers whole) answer
    by_own_or_rest b o y are rest found =
        by_either (not b) (either (not b && has_answer (branch_answers whole) answer) false
        (subst (λ z. ((not b && has_answer (branch_answers whole) answer) || z) ≡ true) rest (subst (λ x. ((not b && option_map_or (λ answers. has_answer answers answer) x false) || y) ≡ true) are found)))

pub whole_unread : (pattern n : ℕ) (whole : Branches) → length (branch_answers whole) < n → Unread (ask_steps pattern n whole)
whole_unread pattern n whole few fuel = ap (λ rest. node_by fuel (Ask pattern n ∷ rest)) (sym (append-nil (branch_steps whole))) ∙ ask_unread pattern n whole [] few (λ f m. refl) fuel

pub pushed_place : (front : List Step) (pattern n : ℕ) (whole : Branches) (answer : List Bool) (node : PlanNode)
    → front ++ ask_steps pattern n (push_branch whole answer node) ≡ ((front ++ ask_steps pattern n whole) ++ On answer ∷ []) ++ node_steps node
pushed_place front pattern n whole answer node =
    ap (λ steps. front ++ Ask pattern n ∷ steps) (push_steps whole answer node) ∙ sym (on_steps front pattern n whole answer (node_steps node))

-- ---- each step is right after those before it

module _ (plan : Plan) where
  abbrev pub begun_with : List Step → Plan
  begun_with front = record plan { steps = front }

  abbrev pub RightFrom : List Step → List Step → Type 0
  RightFrom front [] = Unit {0}
  RightFrom front (s ∷ steps) = IsRightStep (begun_with front) s × RightFrom (front ++ s ∷ []) steps

  right_both : (front steps more : List Step) → RightFrom front steps → RightFrom (front ++ steps) more → RightFrom front (steps ++ more)
  right_both front [] more one two = subst (λ f. RightFrom f more) (append-nil front) two
  right_both front (s ∷ steps) more one two =
      (one.0, right_both (front ++ s ∷ []) steps more one.1 (subst (λ f. RightFrom f more) (sym (append_assoc front (s ∷ []) steps)) two))

  pub new_pattern : (front : List Step) (above : List ℕ) (pattern : ℕ) → OnlyAsk front above → ¬ Contains above pattern → asked_above front pattern ≡ false
  new_pattern front above pattern only new = false_from_ne_true (asked_above front pattern) (λ e. by_case (only [] pattern (ap (λ steps. asked_above steps pattern) (append-nil front) ∙ e)))
    where
      by_case : Contains above pattern ⊎ (asked_above [] pattern ≡ true) → ⊥
      by_case (inl among) = new among
      by_case (inr none) = false≢true none

  pub new_answer : (front : List Step) (pattern n : ℕ) (whole : Branches) (answer : List Bool) → length (branch_answers whole) < n → NoneHas front → ¬ Contains (branch_answers whole) answer → has_branch (front ++ ask_steps pattern n whole) answer ≡ false
  new_answer front pattern n whole answer few none new = false_from_ne_true (has_branch (front ++ ask_steps pattern n whole) answer)
      (λ e. new (branch_in pattern n whole answer (none (ask_steps pattern n whole) (whole_unread pattern n whole few) answer e)))

  mutual
    pub node_right : (node : PlanNode) (front : List Step) (above : List ℕ) → IsRightNode plan above node → OnlyAsk front above → NoneHas front → RightFrom front (node_steps node)
    node_right (leaf class) front above right only none = (right, tt)
    node_right (ask pattern branches) front above right only none = (
      record { within = right.0; new = not_asked front pattern (new_pattern front above pattern only right.1); several = right.2 },
      branches_right branches no_branch front above pattern (length (branch_answers branches)) (omega arith) right.3 only none,
    )

    branches_right : (branches whole : Branches) (front : List Step) (above : List ℕ) (pattern n : ℕ) → length (branch_answers whole) + length (branch_answers branches) ≡ n → AreRightBranches plan (pattern ∷ above) (branch_answers whole) branches
        → OnlyAsk front above → NoneHas front → RightFrom (front ++ ask_steps pattern n whole) (branch_steps branches)
    branches_right no_branch whole front above pattern n count right only none = tt
    branches_right (branch answer node others) whole front above pattern n count right only none =
        let place : List Step = front ++ ask_steps pattern n whole in
        let few : length (branch_answers whole) < n = omega (arith, count) in
        let first : RightFrom (place ++ On answer ∷ []) (node_steps node)
        = node_right node (place ++ On answer ∷ []) (pattern ∷ above) right.2 (asks_in front above pattern n whole answer only) (has_in front pattern n whole answer few none) in
        let more : length (branch_answers (push_branch whole answer node)) + length (branch_answers others) ≡ n
        = omega (arith, count, ap length (push_answers whole answer node), length-append (branch_answers whole) (answer ∷ [])) in
        let next : AreRightBranches plan (pattern ∷ above) (branch_answers (push_branch whole answer node)) others
        = subst (λ answers. AreRightBranches plan (pattern ∷ above) answers others) (sym (push_answers whole answer node)) right.3 in
        let rest : RightFrom (front ++ ask_steps pattern n (push_branch whole answer node)) (branch_steps others)
        = branches_right others (push_branch whole answer node) front above pattern n more next only none in (
          record { width = right.0; new = no_branch_yet place answer (new_answer front pattern n whole answer few none right.1) },
          right_both (place ++ On answer ∷ []) (node_steps node) (branch_steps others) first (subst (λ f. RightFrom f (branch_steps others)) (pushed_place front pattern n whole answer node) rest),
        )

  -- ---- each line is right after those before it

  line_steps : (steps front : List Step) (before : List PlanLine) → plan_begun before ≡ begun_with front → RightFrom front steps → (at : ℕ) → at < length (map step steps ++ end ∷ [])
      → IsRightPlanLine (before ++ take at (map step steps ++ end ∷ [])) (line_at (map step steps ++ end ∷ []) at)
  line_steps [] front before begun right zero low = tt
  line_steps [] front before begun right (suc at) low = absurd (omega (arith, low))
  line_steps (s ∷ steps) front before begun right zero low =
      subst (λ b. IsRightStep b s) (sym (ap plan_begun (append-nil before) ∙ begun)) right.0
  line_steps (s ∷ steps) front before begun right (suc at) low =
      let more : plan_begun (before ++ step s ∷ []) ≡ begun_with (front ++ s ∷ []) = fold-append with_line no_plan before (step s ∷ []) ∙ ap (λ b. with_line b (step s)) begun in
      subst (λ lines. IsRightPlanLine lines (line_at (map step steps ++ end ∷ []) at)) (append_assoc before (step s ∷ []) (take at (map step steps ++ end ∷ [])))
      (line_steps steps (front ++ s ∷ []) (before ++ step s ∷ []) more right.1 at (omega (arith, low)))

  lines_right : RightFrom [] plan.steps → (at : ℕ) → at < length (plan_lines plan) → IsRightPlanLine (take at (plan_lines plan)) (line_at (plan_lines plan) at)
  lines_right right zero low = tt
  lines_right right (suc at) low = line_steps plan.steps [] (head plan.positions plan.patterns plan.classes ∷ []) refl right at (omega (arith, low))

pub nothing_above : OnlyAsk [] []
nothing_above rest pattern e = inr e

pub nothing_has : NoneHas []
nothing_has rest unread answer e = e

pub right_trees : RightTreesAreWellFormed
right_trees plan root spelled right = record {
  node = root;
  lines = record {
    spelled = spelled;
    places = record { plan = plan; node = root; more = []; begins = sym (append-nil (plan_lines plan)) };
    right = lines_right plan (subst (RightFrom plan []) (sym root.steps_are) (node_right plan root.node [] [] right nothing_above nothing_has));
  };
}
