-- In a well-formed plan the values are right down the tree, so a way asks each pattern once.
use Rattle.std.proofs.Common.{◌≡◌, ◌∙◌, ℕ, zero, suc, ◌+◌, ◌<◌, ◌≤◌, refl, ap, sym, subst, arith, append_assoc, append-nil, length-append, inl, inr}
use Rattle.std.specs.Prelude.{Bool, true, false, not, ◌||◌, ◌==◌, List, [], ◌∷◌, ◌++◌, length, ◌⊎◌, is_some, Contains, map, take}
use Rattle.std.specs.List.{list_any}
use Rattle.std.proofs.lemmas.Bool.{false≢true, false_from_ne_true, eqb-true}
use Rattle.std.proofs.lemmas.Bool.Decides.{nat_tests}
use Rattle.std.proofs.lemmas.List.Sums.{fold-append}
use Rattle.adaptive_tree.specs.declared.steps.Step.{Step}
use Rattle.adaptive_tree.specs.declared.steps.Step.TheVariants.{Ask, On}
use Rattle.adaptive_tree.specs.declared.steps.Plan.{Plan}
use Rattle.adaptive_tree.specs.PlanNode.{PlanNode, Branches, leaf, ask, no_branch, branch, branch_answers, node_steps, branch_steps, BeginsWithNode, depth_of, deepest}
use Rattle.adaptive_tree.specs.PlanText.{PlanLine, head, step, end}
use Rattle.adaptive_tree.specs.WellFormed.{IsAskedAbove, HasBranch, IsRightStep, IsRightPlanLine, plan_begun, no_plan, with_line, line_at}
use Rattle.adaptive_tree.specs.Growth.{ask_steps}
use Rattle.adaptive_tree.specs.RightNode.{IsRightNode, AreRightBranches}
use Rattle.adaptive_tree.specs.Laws.{WellFormedTreesAreRight, WaysAreShort}
use Rattle.adaptive_tree.proofs.NodeReading.{begins_true}
use Rattle.adaptive_tree.proofs.CountsBelow.{count_below, count_fits, count_fewer}
use Rattle.adaptive_tree.proofs.RightTrees.{Unread, ask_unread, none_behind_on, whole_unread, on_steps, push_branch, push_answers, pushed_place, begun_with, RightFrom, in_first_or_later}

-- ---- each step from each line

module _ (plan : Plan) where
  steps_from : (steps front : List Step) (before : List PlanLine) → plan_begun before ≡ begun_with plan front
      → ((at : ℕ) → at < length (map step steps ++ end ∷ []) → IsRightPlanLine (before ++ take at (map step steps ++ end ∷ [])) (line_at (map step steps ++ end ∷ []) at)) → RightFrom plan front steps
  steps_from [] front before begun right = tt
  steps_from (s ∷ steps) front before begun right =
      let here : IsRightPlanLine (before ++ []) (step s) = right 0 (omega arith) in
      let more : plan_begun (before ++ step s ∷ []) ≡ begun_with plan (front ++ s ∷ []) = fold-append with_line no_plan before (step s ∷ []) ∙ ap (λ b. with_line b (step s)) begun in (
        subst (λ b. IsRightStep b s) (ap plan_begun (append-nil before) ∙ begun) here,
        steps_from steps (front ++ s ∷ []) (before ++ step s ∷ []) more (λ at low.
            subst (λ lines. IsRightPlanLine lines (line_at (map step steps ++ end ∷ []) at)) (sym (append_assoc before (step s ∷ []) (take at (map step steps ++ end ∷ [])))) (right (suc at) (omega (arith, low)))),
      )

  front_right : (front steps more : List Step) → RightFrom plan front (steps ++ more) → RightFrom plan front steps
  front_right front [] more right = tt
  front_right front (s ∷ steps) more right = (right.0, front_right (front ++ s ∷ []) steps more right.1)

  back_right : (front steps more : List Step) → RightFrom plan front (steps ++ more) → RightFrom plan (front ++ steps) more
  back_right front [] more right = subst (λ f. RightFrom plan f more) (sym (append-nil front)) right
  back_right front (s ∷ steps) more right = subst (λ f. RightFrom plan f more) (append_assoc front (s ∷ []) steps) (back_right (front ++ s ∷ []) steps more right.1)

-- ---- asks that stay open

not_begun : (steps : List Step) → Unread steps → ¬ BeginsWithNode steps
not_begun steps unread b = false≢true (ap is_some (sym (unread (length steps))) ∙ begins_true steps b)

-- Each of these patterns is asked by an ask that is open as long as what follows isn't a node.
abbrev pub AreOpen : List Step → List ℕ → Type 0
AreOpen front above = (pattern : ℕ) → Contains above pattern → (rest : List Step) → Unread rest → IsAskedAbove (front ++ rest) pattern

pub nothing_read : Unread []
nothing_read zero = refl
nothing_read (suc fuel) = refl

pub asked_same : (steps others : List Step) (pattern : ℕ) → steps ≡ others → IsAskedAbove others pattern → IsAskedAbove steps pattern
asked_same steps others pattern same asked = subst (λ s. IsAskedAbove s pattern) (sym same) asked

pub open_in : (front : List Step) (above : List ℕ) (pattern n : ℕ) (whole : Branches) (answer : List Bool) → length (branch_answers whole) < n → AreOpen front above → AreOpen ((front ++ ask_steps pattern n whole) ++ On answer ∷ []) (pattern ∷ above)
open_in front above pattern n whole answer few are other among rest unread =
    asked_same _ (front ++ Ask pattern n ∷ (branch_steps whole ++ On answer ∷ rest)) other (on_steps front pattern n whole answer rest) (by_case (in_first_or_later pattern above other among))
  where
    behind : Unread (Ask pattern n ∷ (branch_steps whole ++ On answer ∷ rest))
    behind = ask_unread pattern n whole (On answer ∷ rest) few (none_behind_on answer rest unread)

    by_case : (pattern ≡ other) ⊎ Contains above other → IsAskedAbove (front ++ Ask pattern n ∷ (branch_steps whole ++ On answer ∷ rest)) other
    by_case (inl same) = (record { above = front; pattern = pattern; branches = n; since = branch_steps whole ++ On answer ∷ rest; stands = refl; unfinished = not_begun (Ask pattern n ∷ (branch_steps whole ++ On answer ∷ rest)) behind }, same)
    by_case (inr later) = are other later (Ask pattern n ∷ (branch_steps whole ++ On answer ∷ rest)) behind

pub has_whole : (front : List Step) (pattern n : ℕ) (whole : Branches) (answer : List Bool) → length (branch_answers whole) < n → Contains (branch_answers whole) answer → HasBranch (front ++ ask_steps pattern n whole) answer
has_whole front pattern n whole answer few among =
    (record { above = front; pattern = pattern; branches = n; since = branch_steps whole; stands = refl; unfinished = not_begun (Ask pattern n ∷ branch_steps whole) (whole_unread pattern n whole few) }, whole, refl, among)

module _ (plan : Plan) where
  mutual
    node_back : (node : PlanNode) (front : List Step) (above : List ℕ) → RightFrom plan front (node_steps node) → AreOpen front above → IsRightNode plan above node
    node_back (leaf class) front above right are = right.0
    node_back (ask pattern branches) front above right are = (
      right.0.within,
      (λ among. right.0.new (asked_same front (front ++ []) pattern (sym (append-nil front)) (are pattern among [] nothing_read))),
      right.0.several,
      branches_back branches no_branch front above pattern (length (branch_answers branches)) (omega arith) right.1 are,
    )

    branches_back : (branches whole : Branches) (front : List Step) (above : List ℕ) (pattern n : ℕ) → length (branch_answers whole) + length (branch_answers branches) ≡ n → RightFrom plan (front ++ ask_steps pattern n whole) (branch_steps branches)
        → AreOpen front above → AreRightBranches plan (pattern ∷ above) (branch_answers whole) branches
    branches_back no_branch whole front above pattern n count right are = tt
    branches_back (branch answer node others) whole front above pattern n count right are =
        let place : List Step = front ++ ask_steps pattern n whole in
        let few : length (branch_answers whole) < n = omega (arith, count) in
        let more : length (branch_answers (push_branch whole answer node)) + length (branch_answers others) ≡ n
        = omega (arith, count, ap length (push_answers whole answer node), length-append (branch_answers whole) (answer ∷ [])) in
        let first : RightFrom plan (place ++ On answer ∷ []) (node_steps node) = front_right plan (place ++ On answer ∷ []) (node_steps node) (branch_steps others) right.1 in
        let rest : RightFrom plan (front ++ ask_steps pattern n (push_branch whole answer node)) (branch_steps others)
        = subst (λ f. RightFrom plan f (branch_steps others)) (sym (pushed_place front pattern n whole answer node)) (back_right plan (place ++ On answer ∷ []) (node_steps node) (branch_steps others) right.1) in (
          right.0.width,
          (λ among. right.0.new (has_whole front pattern n whole answer few among)),
          node_back node (place ++ On answer ∷ []) (pattern ∷ above) first (open_in front above pattern n whole answer few are),
          subst (λ answers. AreRightBranches plan (pattern ∷ above) answers others) (push_answers whole answer node) (branches_back others (push_branch whole answer node) front above pattern n more rest are),
        )

pub trees_right : WellFormedTreesAreRight
trees_right plan root formed =
    let steps : RightFrom plan [] plan.steps = steps_from plan plan.steps [] (head plan.positions plan.patterns plan.classes ∷ []) refl (λ at low. formed.lines.right (suc at) (omega (arith, low))) in
    node_back plan root.node [] [] (subst (RightFrom plan []) root.steps_are steps) (λ pattern among. absurd (omega (arith, among.1)))

-- ---- each pattern once on a way

abbrev is_free : List ℕ → ℕ → Bool
is_free above pattern = not (list_any (λ other. other == pattern) above)

same_number : (n : ℕ) → (n == n) ≡ true
same_number n = grind (arith, nat_tests)

any_in : (above : List ℕ) (pattern : ℕ) → list_any (λ other. other == pattern) above ≡ true → Contains above pattern
any_in [] pattern e = absurd (false≢true e)
any_in (first ∷ above) pattern e = by_first (first == pattern) refl (any_in above pattern) e
  where
    by_first : (b : Bool) → (first == pattern) ≡ b → (list_any (λ other. other == pattern) above ≡ true → Contains above pattern) → (b || list_any (λ other. other == pattern) above) ≡ true → Contains (first ∷ above) pattern
    by_first true is rest found = (0, omega arith, eqb-true first pattern is)
    by_first false is rest found = let among : Contains above pattern = rest found in (suc among.0, omega (arith, among.1), among.2)

fewer_free : (above : List ℕ) (pattern other : ℕ) → is_free (pattern ∷ above) other ≡ true → is_free above other ≡ true
fewer_free above pattern other free = by_test (pattern == other) (list_any (λ x. x == other) above) free
  where
    by_test : (a b : Bool) → not (a || b) ≡ true → not b ≡ true
    by_test true b e = absurd (false≢true e)
    by_test false b e = e

mutual
  node_depth : (plan : Plan) (node : PlanNode) (above : List ℕ) → IsRightNode plan above node → depth_of node ≤ count_below (is_free above) plan.patterns
  node_depth plan (leaf class) above right = omega arith
  node_depth plan (ask pattern branches) above right =
      let free : is_free above pattern ≡ true = ap not (false_from_ne_true (list_any (λ other. other == pattern) above) (λ e. right.1 (any_in above pattern e))) in
      let taken : is_free (pattern ∷ above) pattern ≡ false = ap (λ b. not (b || list_any (λ other. other == pattern) above)) (same_number pattern) in
      omega (arith, branches_depth plan branches (pattern ∷ above) [] right.3, count_fewer (is_free (pattern ∷ above)) (is_free above) plan.patterns pattern (fewer_free above pattern) right.0 taken free)

  branches_depth : (plan : Plan) (branches : Branches) (above : List ℕ) (before : List (List Bool)) → AreRightBranches plan above before branches → deepest branches ≤ count_below (is_free above) plan.patterns
  branches_depth plan no_branch above before right = omega arith
  branches_depth plan (branch answer node others) above before right = omega (arith, node_depth plan node above right.2, branches_depth plan others above (before ++ answer ∷ []) right.3)

pub ways_short : WaysAreShort
ways_short plan root formed = omega (arith, node_depth plan root.node [] (trees_right plan root formed), count_fits (is_free []) plan.patterns)
