-- Nodes and branches in the steps of a plan, by place.
use Rattle.std.proofs.Common.{◌≡◌, ◌∙◌, ℕ, zero, suc, ◌+◌, ◌<◌, ◌≤◌, refl, ap, sym, subst, arith, append_assoc, length-append, length-drop, length, get_or, eqb}
use Rattle.std.specs.Prelude.{Bool, true, false, not, List, [], ◌∷◌, ◌++◌, drop, Option, None, Some, option_and_then, slice_index_or, if◌then◌else◌}
use Rattle.std.specs.Bool.{beq}
use Rattle.std.proofs.lemmas.Bool.{false≢true, false_from_ne_true}
use Rattle.std.proofs.lemmas.List.{get_or-map}
use Rattle.net_model.specs.ClassTable.{same_bits}
use Rattle.dict_rows.proofs.EntryLemmas.{same_bits-Decides}
use Rattle.text_fields.specs.Fields.{Text, digit_bits}
use Rattle.adaptive_tree.specs.declared.steps.Step.{Step}
use Rattle.adaptive_tree.specs.declared.steps.Step.TheVariants.{Ask, On, Class}
use Rattle.adaptive_tree.specs.PlanNode.{PlanNode, Branches, leaf, ask, no_branch, branch, branch_answers, node_steps, branch_steps, BeginsWithNode}
use Rattle.adaptive_tree.specs.declared.outcome.Outcome.{Outcome}
use Rattle.adaptive_tree.specs.declared.outcome.Outcome.TheVariants as outcome
use Rattle.adaptive_tree.specs.Walk.{next_node, branch_for, outcome_at}
use Rattle.adaptive_tree.specs.Places.{StandsAt, HasBranchesAt, IsWalkAt, IsWalkSomewhere, nodes_behind}

-- ---- after a node

-- the steps after the given number of nodes, which may have steps of branches between them
pub behind_nodes : ℕ → List Step → List Step
behind_nodes zero steps = steps
behind_nodes (suc n) [] = []
behind_nodes (suc n) (Ask pattern branches ∷ steps) = behind_nodes (n + branches) steps
behind_nodes (suc n) (On answer ∷ steps) = behind_nodes (suc n) steps
behind_nodes (suc n) (Class class ∷ steps) = behind_nodes n steps

pub one_behind : (s : Step) (left : ℕ) (steps : List Step) → 0 < left → behind_nodes (nodes_behind s left) steps ≡ behind_nodes left (s ∷ steps)
unfolding behind_nodes
one_behind s zero steps some = absurd (omega (arith, some))
one_behind (Ask pattern branches) (suc n) steps some = ap (λ (k : ℕ). behind_nodes k steps) (omega arith)
one_behind (On answer) (suc n) steps some = refl
one_behind (Class class) (suc n) steps some = ap (λ (k : ℕ). behind_nodes k steps) (omega arith)

pub none_behind : (left : ℕ) → behind_nodes left [] ≡ []
unfolding behind_nodes
none_behind zero = refl
none_behind (suc n) = refl

mutual
  unfolding behind_nodes

  pub node_behind : (node : PlanNode) (n : ℕ) (rest : List Step) → behind_nodes (suc n) (node_steps node ++ rest) ≡ behind_nodes n rest
  node_behind (leaf class) n rest = refl
  node_behind (ask pattern branches) n rest = branches_behind branches n rest

  branches_behind : (branches : Branches) (n : ℕ) (rest : List Step) → behind_nodes (n + length (branch_answers branches)) (branch_steps branches ++ rest) ≡ behind_nodes n rest
  branches_behind no_branch n rest =
      let e : n + 0 ≡ n = omega arith in
      ap (λ (k : ℕ). behind_nodes k rest) e
  branches_behind (branch answer node others) n rest =
      let e : n + suc (length (branch_answers others)) ≡ suc (n + length (branch_answers others)) = omega arith in
      ap (λ (k : ℕ). behind_nodes k (On answer ∷ ((node_steps node ++ branch_steps others) ++ rest))) e
      ∙ (ap (behind_nodes (suc (n + length (branch_answers others)))) (append_assoc (node_steps node) (branch_steps others) rest)
      ∙ (node_behind node (n + length (branch_answers others)) (branch_steps others ++ rest) ∙ branches_behind others n rest))

pub one_node_behind : (steps : List Step) → (given : BeginsWithNode steps) → behind_nodes 1 steps ≡ given.rest
unfolding behind_nodes
one_node_behind steps given = ap (behind_nodes 1) given.steps_are ∙ node_behind given.node 0 given.rest

-- what a step at the place of a walk says of its outcome
abbrev pub outcome_of_step : Step → Outcome
outcome_of_step (Ask pattern branches) = outcome.Ask pattern
outcome_of_step (On answer) = outcome.Unknown
outcome_of_step (Class class) = outcome.Class class

abbrev step_kind : Step → ℕ
step_kind (Ask pattern branches) = 0
step_kind (On answer) = 1
step_kind (Class class) = 2

abbrev asked_pattern : Step → ℕ
asked_pattern (Ask pattern branches) = pattern
asked_pattern (On answer) = 0
asked_pattern (Class class) = 0

abbrev asked_count : Step → ℕ
asked_count (Ask pattern branches) = branches
asked_count (On answer) = 0
asked_count (Class class) = 0

-- ---- places

some_steps : (node : PlanNode) → 0 < length (node_steps node)
some_steps (leaf class) = omega arith
some_steps (ask pattern branches) = omega arith

pub node_low : (steps : List Step) (place : ℕ) (node : PlanNode) → StandsAt steps place node → place < length steps
node_low steps place node at = omega (arith, length-drop place steps, ap (λ (xs : List Step). length xs) at.there, length-append (node_steps node) at.rest, some_steps node)

pub place_low : (steps : List Step) (place : Option ℕ) (at : ℕ) → IsWalkSomewhere steps place → place ≡ Some at → at < length steps
place_low steps place at walk is = by_node walk.node (subst (λ (p : Option ℕ). IsWalkAt steps p walk.node) is walk.at)
  where
    by_node : (node : Option PlanNode) → IsWalkAt steps (Some at) node → at < length steps
    by_node None none = absurd none
    by_node (Some node) there = node_low steps at node there

-- ---- a step at a place

-- the steps starting at a place begin with the one there
pub drop_at : (steps : List Step) (at : ℕ) (s : Step) → at < length steps → s ≡ slice_index_or steps at s → drop at steps ≡ s ∷ drop (at + 1) steps
drop_at [] at s low is = absurd (omega (arith, low))
drop_at (x ∷ steps) zero s low is = ap (λ (y : Step). y ∷ steps) (sym is)
drop_at (x ∷ steps) (suc at) s low is =
    let e : suc at + 1 ≡ suc (at + 1) = omega arith in
    drop_at steps at s (omega (arith, low)) is ∙ ap (λ (k : ℕ). s ∷ drop k (x ∷ steps)) (sym e)

pub drop_past : (steps : List Step) (at : ℕ) → length steps ≤ at → drop at steps ≡ []
drop_past [] zero past = refl
drop_past [] (suc at) past = refl
drop_past (x ∷ steps) zero past = absurd (omega (arith, past))
drop_past (x ∷ steps) (suc at) past = drop_past steps at (omega (arith, past))

-- no node is left to end
pub all_ended : (left : ℕ) (steps : List Step) → (0 < left → ⊥) → behind_nodes left steps ≡ steps
unfolding behind_nodes
all_ended zero steps none = refl
all_ended (suc n) steps none = absurd (none (omega arith))

pub not_other : (x y : Bool) → not (beq x y) ≡ true → x ≡ y → ⊥
not_other true true h e = false≢true h
not_other true false h e = false≢true (sym e)
not_other false true h e = false≢true e
not_other false false h e = false≢true h

pub bits_differ : (bits : List Bool) (digits : Text) (at : ℕ) → at < length digits → (get_or bits at false ≡ eqb (get_or digits at 0) 49 → ⊥) → same_bits bits (digit_bits digits) ≡ false
bits_differ bits digits at low other =
    false_from_ne_true (same_bits bits (digit_bits digits)) (λ e.
    other (ap (λ (xs : List Bool). get_or xs at false) ((same_bits-Decides bits (digit_bits digits)).0 e) ∙ get_or-map (λ b. eqb b 49) digits at 0 false low))

pub bits_agree : (bits : List Bool) (digits : Text) → bits ≡ digit_bits digits → same_bits bits (digit_bits digits) ≡ true
bits_agree bits digits e = (same_bits-Decides bits (digit_bits digits)).1 e

-- ---- branches that are left to be compared

-- `left` of the branches are left, starting at a place, and none before it is for the answer.
pub record AreLeft (steps : List Step) (at left : ℕ) (bits : List Bool) (branches : Branches) : Type 0 where
  pub others : Branches
  pub rest : List Step
  pub count_is : length (branch_answers others) ≡ left
  pub there : drop at steps ≡ branch_steps others ++ rest
  pub same : branch_for bits branches ≡ branch_for bits others

pub left_first : (steps : List Step) (first count : ℕ) (bits : List Bool) (given : HasBranchesAt steps first count) → AreLeft steps first count bits given.branches
left_first steps first count bits given = record { others = given.branches; rest = given.rest; count_is = given.count_is; there = given.there; same = refl }

-- the next of them
pub record NextLeft (steps : List Step) (at left : ℕ) (bits : List Bool) (branches : Branches) : Type 0 where
  pub answer : List Bool
  pub node : PlanNode
  pub others : Branches
  pub rest : List Step
  pub count_is : length (branch_answers others) + 1 ≡ left
  pub there : drop at steps ≡ On answer ∷ (node_steps node ++ (branch_steps others ++ rest))
  pub same : branch_for bits branches ≡ (if same_bits answer bits then Some node else branch_for bits others)

pub next_left : (steps : List Step) (at left : ℕ) (bits : List Bool) (branches : Branches) → 0 < left → AreLeft steps at left bits branches → NextLeft steps at left bits branches
next_left steps at left bits branches some are = by_others are.others refl
  where
    by_others : (others : Branches) → are.others ≡ others → NextLeft steps at left bits branches
    by_others no_branch is = absurd (omega (arith, some, are.count_is, ap (λ (b : Branches). length (branch_answers b)) is))
    by_others (branch answer node others) is = record {
      answer = answer;
      node = node;
      others = others;
      rest = are.rest;
      count_is = omega (arith, are.count_is, ap (λ (b : Branches). length (branch_answers b)) is);
      there = are.there ∙ ap (λ (b : Branches). branch_steps b ++ are.rest) is ∙ ap (λ (steps : List Step). On answer ∷ steps) (append_assoc (node_steps node) (branch_steps others) are.rest);
      same = are.same ∙ ap (branch_for bits) is;
    }

pub left_low : (steps : List Step) (at left : ℕ) (bits : List Bool) (branches : Branches) → 0 < left → AreLeft steps at left bits branches → at + 1 < length steps
left_low steps at left bits branches some are =
    let n : NextLeft steps at left bits branches = next_left steps at left bits branches some are in
    omega (arith, length-drop at steps, ap (λ (xs : List Step). length xs) n.there, length-append (node_steps n.node) (branch_steps n.others ++ n.rest), some_steps n.node)

step_is : (steps : List Step) (at : ℕ) (s x : Step) (rest : List Step) → at < length steps → s ≡ slice_index_or steps at s → drop at steps ≡ x ∷ rest → (s ≡ x) × (drop (at + 1) steps ≡ rest)
step_is steps at s x rest low is there = heads (sym (drop_at steps at s low is) ∙ there)
  where
    heads : s ∷ drop (at + 1) steps ≡ x ∷ rest → (s ≡ x) × (drop (at + 1) steps ≡ rest)
    heads e = (ap (λ (xs : List Step). get_or xs 0 s) e, ap (drop 1) e)

module _ (steps : List Step) (at left : ℕ) (bits : List Bool) (branches : Branches) (some : 0 < left) (are : AreLeft steps at left bits branches) (s : Step) (is : s ≡ slice_index_or steps at s) where
  next : NextLeft steps at left bits branches
  next = next_left steps at left bits branches some are

  standing : (s ≡ On next.answer) × (drop (at + 1) steps ≡ node_steps next.node ++ (branch_steps next.others ++ next.rest))
  standing =
      let low : at + 1 < length steps = left_low steps at left bits branches some are in
      step_is steps at s (On next.answer) (node_steps next.node ++ (branch_steps next.others ++ next.rest)) (omega (arith, low)) is next.there

  -- the branch is for the answer
  pub found_left : ((answer : List Bool) → s ≡ On answer → true ≡ same_bits answer bits) → IsWalkAt steps (Some (at + 1)) (branch_for bits branches)
  found_left is_for =
      let e : same_bits next.answer bits ≡ true = sym (is_for next.answer standing.0) in
      let found : branch_for bits branches ≡ Some next.node = next.same ∙ ap (λ (b : Bool). if b then Some next.node else branch_for bits next.others) e in
      subst (IsWalkAt steps (Some (at + 1))) (sym found) (record { rest = branch_steps next.others ++ next.rest; there = standing.1 })

  -- the branch isn't for the answer, and the next one comes after its node
  pub fewer_left : ((answer : List Bool) → s ≡ On answer → false ≡ same_bits answer bits) → (later : ℕ) → ((given : BeginsWithNode (drop (at + 1) steps)) → drop later steps ≡ given.rest) → (fewer : ℕ) → fewer + 1 ≡ left → AreLeft steps later fewer bits branches
  fewer_left other later behind fewer less = record {
    others = next.others;
    rest = next.rest;
    count_is = omega (arith, next.count_is, less);
    there = behind (record { node = next.node; rest = branch_steps next.others ++ next.rest; steps_are = standing.1 });
    same = next.same ∙ ap (λ (b : Bool). if b then Some next.node else branch_for bits next.others) (sym (other next.answer standing.0));
  }

pub none_left : (steps : List Step) (at : ℕ) (bits : List Bool) (branches : Branches) → AreLeft steps at 0 bits branches → IsWalkAt steps None (branch_for bits branches)
none_left steps at bits branches are = subst (IsWalkAt steps None) (sym (are.same ∙ by_others are.others are.count_is)) tt
  where
    by_others : (others : Branches) → length (branch_answers others) ≡ 0 → branch_for bits others ≡ None
    by_others no_branch e = refl
    by_others (branch answer node others) e = absurd (omega (arith, e))

-- ---- what is at the place of a walk

by_walk : (steps : List Step) (at : ℕ) (s : Step) → s ≡ slice_index_or steps at s → (node : PlanNode) → StandsAt steps at node → outcome_of_step s ≡ outcome_at (Some node)
by_walk steps at s is (leaf class) there =
    let e : (s ≡ Class class) × (drop (at + 1) steps ≡ there.rest) = step_is steps at s (Class class) there.rest (node_low steps at (leaf class) there) is there.there in
    ap outcome_of_step e.0
by_walk steps at s is (ask pattern branches) there =
    let low : at < length steps = node_low steps at (ask pattern branches) there in
    let e : (s ≡ Ask pattern (length (branch_answers branches))) × (drop (at + 1) steps ≡ branch_steps branches ++ there.rest)
    = step_is steps at s (Ask pattern (length (branch_answers branches))) (branch_steps branches ++ there.rest) low is there.there in
    ap outcome_of_step e.0

pub walk_outcome : (steps : List Step) (place : Option ℕ) (at : ℕ) (s : Step) → place ≡ Some at → s ≡ slice_index_or steps at s → (node : Option PlanNode) → IsWalkAt steps place node → outcome_of_step s ≡ outcome_at node
walk_outcome steps place at s is here node walk = by_node node (subst (λ (p : Option ℕ). IsWalkAt steps p node) is walk)
  where
    by_node : (node : Option PlanNode) → IsWalkAt steps (Some at) node → outcome_of_step s ≡ outcome_at node
    by_node None none = absurd none
    by_node (Some n) there = by_walk steps at s here n there

pub no_place : (steps : List Step) (place : Option ℕ) → place ≡ None → (node : Option PlanNode) → IsWalkAt steps place node → node ≡ None
no_place steps place is node walk = by_node node (subst (λ (p : Option ℕ). IsWalkAt steps p node) is walk)
  where
    by_node : (node : Option PlanNode) → IsWalkAt steps None node → node ≡ None
    by_node None none = refl
    by_node (Some n) there = absurd there

-- an ask at the place of a walk is followed by its number of branches
pub branches_at : (steps : List Step) (place : Option ℕ) (at : ℕ) (s : Step) (pattern branches : ℕ) → place ≡ Some at → s ≡ slice_index_or steps at s → s ≡ Ask pattern branches → (node : Option PlanNode) → IsWalkAt steps place node
    → (b : Branches) × (node ≡ Some (ask pattern b)) × ((given : HasBranchesAt steps (at + 1) branches) × (given.branches ≡ b))
branches_at steps place at s pattern count is here asks node walk = by_node node (subst (λ (p : Option ℕ). IsWalkAt steps p node) is walk)
  where
    by_tree : (n : PlanNode) → StandsAt steps at n → (b : Branches) × (Some n ≡ Some (ask pattern b)) × ((given : HasBranchesAt steps (at + 1) count) × (given.branches ≡ b))
    by_tree (leaf class) there =
        let e : (s ≡ Class class) × (drop (at + 1) steps ≡ there.rest) = step_is steps at s (Class class) there.rest (node_low steps at (leaf class) there) here there.there in
        absurd (omega (arith, ap step_kind (sym asks ∙ e.0)))
    by_tree (ask other branches) there =
        let low : at < length steps = node_low steps at (ask other branches) there in
        let e : (s ≡ Ask other (length (branch_answers branches))) × (drop (at + 1) steps ≡ branch_steps branches ++ there.rest)
        = step_is steps at s (Ask other (length (branch_answers branches))) (branch_steps branches ++ there.rest) low here there.there in
        let same : Ask pattern count ≡ Ask other (length (branch_answers branches)) = sym asks ∙ e.0 in
        (branches, ap (λ (p : ℕ). Some (ask p branches)) (sym (ap asked_pattern same)), (record { branches = branches; rest = there.rest; count_is = sym (ap asked_count same); there = e.1 }, refl))

    by_node : (node : Option PlanNode) → IsWalkAt steps (Some at) node → (b : Branches) × (node ≡ Some (ask pattern b)) × ((given : HasBranchesAt steps (at + 1) count) × (given.branches ≡ b))
    by_node None none = absurd none
    by_node (Some n) there = by_tree n there

-- anything else at the place has no next node
pub no_next : (steps : List Step) (place : Option ℕ) (at : ℕ) (s : Step) (bits : List Bool) → place ≡ Some at → s ≡ slice_index_or steps at s → ((pattern branches : ℕ) → s ≡ Ask pattern branches → ⊥) → (node : Option PlanNode) → IsWalkAt steps place node
    → option_and_then (next_node bits) node ≡ None
no_next steps place at s bits is here other node walk = by_node node (subst (λ (p : Option ℕ). IsWalkAt steps p node) is walk)
  where
    by_tree : (n : PlanNode) → StandsAt steps at n → option_and_then (next_node bits) (Some n) ≡ None
    by_tree (leaf class) there = refl
    by_tree (ask pattern branches) there =
        let low : at < length steps = node_low steps at (ask pattern branches) there in
        absurd (other pattern (length (branch_answers branches)) (step_is steps at s (Ask pattern (length (branch_answers branches))) (branch_steps branches ++ there.rest) low here there.there).0)

    by_node : (node : Option PlanNode) → IsWalkAt steps (Some at) node → option_and_then (next_node bits) node ≡ None
    by_node None none = absurd none
    by_node (Some n) there = by_tree n there
