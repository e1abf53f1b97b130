-- The most asks that are open at once are the most on one way.
use Rattle.std.proofs.Common.{◌≡◌, ◌∙◌, ℕ, zero, suc, ◌+◌, ◌<◌, ◌≤◌, ◌^◌, refl, ap, sym, arith, append-nil, ◌-◌, get_or, set, take}
use Rattle.std.specs.Prelude.{max, Bool, List, [], ◌∷◌, ◌++◌, length, fold, reverse}
use Rattle.std.proofs.lemmas.List.{reverse-append, get_or_default, get_or-take, length-take-le}
use Rattle.std.proofs.lemmas.List.Sums.{fold-append}
use Rattle.std.proofs.lemmas.List.Elements.{All-head}
use Rattle.adaptive_tree.specs.declared.steps.Step.{Step}
use Rattle.adaptive_tree.specs.declared.steps.Plan.{Plan}
use Rattle.adaptive_tree.specs.PlanNode.{PlanNode, Branches, HasNode, leaf, ask, no_branch, branch, branch_answers, node_steps, branch_steps, depth_of, deepest}
use Rattle.adaptive_tree.specs.PlanText.{HasPlanSpelling, head}
use Rattle.adaptive_tree.specs.WellFormed.{IsWellFormed}
use Rattle.adaptive_tree.specs.RightNode.{IsRightNode, AreRightBranches}
use Rattle.adaptive_tree.specs.OpenWays.{OpenWays, node_ended, with_step, open_ways}
use Rattle.adaptive_tree.proofs.TreesRight.{trees_right, ways_short}

abbrev ways_with : List ℕ → ℕ → OpenWays
ways_with left most = record { left = left; most = most }

same_ways : (left others : List ℕ) (m n : ℕ) → left ≡ others → m ≡ n → ways_with left m ≡ ways_with others n
same_ways left others m n e f = ap (λ l. ways_with l m) e ∙ ap (ways_with others) f

-- a branch that is the last one, or that others follow
one_branch : (answer : List Bool) (node : PlanNode) (others : Branches) (left : List ℕ) (most : ℕ) → length left + 1 ≤ most
    → ((l : List ℕ) (m : ℕ) → length l ≤ m → fold with_step (ways_with l m) (node_steps node) ≡ ways_with (node_ended l) (max m (length l + depth_of node)))
    → ((l : List ℕ) (m : ℕ) → 0 < length (branch_answers others) → length l + 1 ≤ m → fold with_step (ways_with (length (branch_answers others) ∷ l) m) (branch_steps others) ≡ ways_with (node_ended l) (max m (length l + 1 + deepest others)))
    → fold with_step (ways_with (suc (length (branch_answers others)) ∷ left) most) (node_steps node ++ branch_steps others) ≡ ways_with (node_ended left) (max most (length left + 1 + max (depth_of node) (deepest others)))
one_branch answer node no_branch left most low own rest =
    ap (λ (steps : List Step). fold with_step (ways_with (1 ∷ left) most) steps) (append-nil (node_steps node))
    ∙ own (1 ∷ left) most (omega (arith, low))
    ∙ same_ways (node_ended left) (node_ended left) (max most (suc (length left) + depth_of node)) (max most (length left + 1 + max (depth_of node) 0)) refl (omega arith)
one_branch answer node (branch other next others) left most low own rest =
    let n : ℕ = length (branch_answers others) in
    let m : ℕ = max most (suc (length left) + depth_of node) in
    fold-append with_step (ways_with (suc (suc n) ∷ left) most) (node_steps node) (branch_steps (branch other next others))
    ∙ ap (λ (ways : OpenWays). fold with_step ways (branch_steps (branch other next others))) (own (suc (suc n) ∷ left) most (omega (arith, low)))
    ∙ rest left m (omega arith) (omega (arith, low))
    ∙ same_ways (node_ended left) (node_ended left) (max m (length left + 1 + deepest (branch other next others))) (max most (length left + 1 + max (depth_of node) (deepest (branch other next others)))) refl (omega arith)

module _ (plan : Plan) where
  mutual
    node_ways : (node : PlanNode) (above : List ℕ) → IsRightNode plan above node → (left : List ℕ) (most : ℕ) → length left ≤ most
        → fold with_step (ways_with left most) (node_steps node) ≡ ways_with (node_ended left) (max most (length left + depth_of node))
    node_ways (leaf class) above right left most low = same_ways (node_ended left) (node_ended left) most (max most (length left + 0)) refl (omega (arith, low))
    node_ways (ask pattern branches) above right left most low =
        branch_ways branches (pattern ∷ above) [] right.3 left (max most (length left + 1)) (omega (arith, right.2)) (omega arith)
        ∙ same_ways (node_ended left) (node_ended left) (max (max most (length left + 1)) (length left + 1 + deepest branches)) (max most (length left + (deepest branches + 1))) refl (omega arith)

    branch_ways : (branches : Branches) (above : List ℕ) (before : List (List Bool)) → AreRightBranches plan above before branches → (left : List ℕ) (most : ℕ) → 0 < length (branch_answers branches) → length left + 1 ≤ most
        → fold with_step (ways_with (length (branch_answers branches) ∷ left) most) (branch_steps branches) ≡ ways_with (node_ended left) (max most (length left + 1 + deepest branches))
    branch_ways no_branch above before right left most some low = absurd (omega (arith, some))
    branch_ways (branch answer node others) above before right left most some low =
        one_branch answer node others left most low (node_ways node above right.2) (branch_ways others above (before ++ answer ∷ []) right.3)

pub most_is_depth : (plan : Plan) → IsWellFormed plan → (root : HasNode plan) → (open_ways plan.steps).most ≡ depth_of root.node
most_is_depth plan formed root =
    ap (λ steps. (open_ways steps).most) root.steps_are
    ∙ (ap (λ (ways : OpenWays). ways.most) (node_ways plan root.node [] (trees_right plan root formed) [] 0 (omega arith)) ∙ omega arith)

pub depth_small : (plan : Plan) → IsWellFormed plan → (open_ways plan.steps).most < 2 ^ 32
depth_small plan formed =
    let spelled = All-head HasPlanSpelling (head plan.positions plan.patterns plan.classes) _ formed.lines.spelled in
    omega (arith, spelled.1, most_is_depth plan formed formed.node, ways_short plan formed.node formed)

-- ---- the last of a list is that of the innermost ask

last_of : (xs : List ℕ) (m : ℕ) → length xs ≡ m + 1 → (front : List ℕ) × (length front ≡ m) × (xs ≡ front ++ get_or xs m 0 ∷ [])
last_of [] m long = absurd (omega (arith, long))
last_of (x ∷ []) zero long = ([], refl, refl)
last_of (x ∷ y ∷ xs) zero long = absurd (omega (arith, long))
last_of (x ∷ xs) (suc m) long =
    let found = last_of xs m (omega (arith, long)) in
    (x ∷ found.0, ap suc found.1, ap (λ (ys : List ℕ). x ∷ ys) found.2)

set_last : (front : List ℕ) (x y : ℕ) → set (front ++ x ∷ []) (length front) y ≡ front ++ y ∷ []
set_last [] x y = refl
set_last (z ∷ front) x y = ap (λ (xs : List ℕ). z ∷ xs) (set_last front x y)

more_than_one : (x : ℕ) (left : List ℕ) → 1 < x → node_ended (x ∷ left) ≡ (x - 1) ∷ left
more_than_one zero left more = absurd (omega (arith, more))
more_than_one (suc zero) left more = absurd (omega (arith, more))
more_than_one (suc (suc n)) left more = let e : suc n ≡ suc (suc n) - 1 = omega arith in ap (λ (k : ℕ). k ∷ left) e

last_less : (xs : List ℕ) (m : ℕ) → length xs ≡ m + 1 → 1 < get_or xs m 0 → reverse (set xs m (get_or xs m 0 - 1)) ≡ node_ended (reverse xs)
last_less xs m long more =
    let found = last_of xs m long in
    let x : ℕ = get_or xs m 0 in
    let was : reverse xs ≡ x ∷ reverse found.0 = ap reverse found.2 ∙ reverse-append found.0 (x ∷ []) in
    let is : set xs m (x - 1) ≡ found.0 ++ (x - 1) ∷ [] = ap (λ (ys : List ℕ). set ys m (x - 1)) found.2 ∙ (ap (λ (k : ℕ). set (found.0 ++ x ∷ []) k (x - 1)) (sym found.1) ∙ set_last found.0 x (x - 1)) in
    ap reverse is ∙ (reverse-append found.0 ((x - 1) ∷ []) ∙ (sym (more_than_one x (reverse found.0) more) ∙ ap node_ended (sym was)))

-- the last of the first `count` is one less
pub end_less : (items kept : List ℕ) (count x y : ℕ) → count ≤ length items → 0 < count → kept ≡ take count items → 1 < x → x ≡ get_or items (count - 1) x → y ≡ get_or kept (count - 1) y → node_ended (reverse (take count items)) ≡ node_ended (reverse items)
    → reverse (set kept (count - 1) (y - 1)) ≡ node_ended (reverse items)
end_less items kept count x y within some kept_is more x_is y_is same =
    let m : ℕ = count - 1 in
    let long : length kept ≡ m + 1 = omega (arith, ap (λ (xs : List ℕ). length xs) kept_is, length-take-le count items within, some) in
    let last : get_or kept m 0 ≡ y = get_or_default kept m 0 y (omega (arith, long)) ∙ sym y_is in
    let was : get_or items m 0 ≡ x = get_or_default items m 0 x (omega (arith, within, some)) ∙ sym x_is in
    let one : get_or kept m 0 ≡ get_or items m 0 = ap (λ (xs : List ℕ). get_or xs m 0) kept_is ∙ get_or-take count items m 0 (omega (arith, some)) in
    ap (λ (z : ℕ). reverse (set kept m (z - 1))) (sym last) ∙ (last_less kept m long (omega (arith, more, was, one)) ∙ (ap (λ (xs : List ℕ). node_ended (reverse xs)) kept_is ∙ same))
