-- A node is read back from its steps in one way, whatever comes after them.
use Rattle.std.proofs.Common.{◌≡◌, ◌∙◌, ℕ, zero, suc, ◌+◌, ◌≤◌, refl, ap, sym, lit≤, arith, append_assoc, length-append}
use Rattle.std.specs.Prelude.{max, Bool, true, List, [], ◌∷◌, ◌++◌, length, Option, None, Some, IfSome, is_some, unwrap_or, option_map, option_and_then}
use Rattle.std.proofs.lemmas.Bool.{false≢true}
use Rattle.adaptive_tree.specs.declared.steps.Step.{Step}
use Rattle.adaptive_tree.specs.declared.steps.Step.TheVariants.{Ask, On, Class}
use Rattle.adaptive_tree.specs.PlanNode.{PlanNode, Branches, leaf, ask, no_branch, branch, branch_answers, node_steps, branch_steps, BeginsWithNode}

-- ---- a reader, which goes the given number of steps down

abbrev pub with_pattern : ℕ → Branches × List Step → PlanNode × List Step
with_pattern pattern x = (ask pattern x.0, x.1)

abbrev pub with_branch : List Bool → PlanNode → Branches × List Step → Branches × List Step
with_branch answer node x = (branch answer node x.0, x.1)

-- the given number of branches, whose nodes are read by `read`
abbrev pub branches_by : (List Step → Option (PlanNode × List Step)) → ℕ → List Step → Option (Branches × List Step)
branches_by read zero steps = Some (no_branch, steps)
branches_by read (suc n) [] = None
branches_by read (suc n) (Ask pattern branches ∷ steps) = None
branches_by read (suc n) (Class class ∷ steps) = None
branches_by read (suc n) (On answer ∷ steps) = option_and_then (λ x. option_map (with_branch answer x.0) (branches_by read n x.1)) (read steps)

abbrev pub node_by : ℕ → List Step → Option (PlanNode × List Step)
node_by zero steps = None
node_by (suc fuel) [] = None
node_by (suc fuel) (Class class ∷ steps) = Some (leaf class, steps)
node_by (suc fuel) (Ask pattern branches ∷ steps) = option_map (with_pattern pattern) (branches_by (node_by fuel) branches steps)
node_by (suc fuel) (On answer ∷ steps) = None

-- how many steps down a node takes
abbrev mutual
  pub height_of : PlanNode → ℕ
  height_of (leaf class) = 1
  height_of (ask pattern branches) = tallest branches + 1

  pub tallest : Branches → ℕ
  tallest no_branch = 0
  tallest (branch answer node others) = max (height_of node) (tallest others)

mutual
  pub node_is_read : (node : PlanNode) (fuel : ℕ) (rest : List Step) → height_of node ≤ fuel → node_by fuel (node_steps node ++ rest) ≡ Some (node, rest)
  node_is_read (leaf class) zero rest fits = absurd (omega (arith, fits))
  node_is_read (leaf class) (suc fuel) rest fits = refl
  node_is_read (ask pattern branches) zero rest fits = absurd (omega (arith, fits))
  node_is_read (ask pattern branches) (suc fuel) rest fits = ap (option_map (with_pattern pattern)) (branches_are_read branches fuel rest (omega (arith, fits)))

  pub branches_are_read : (branches : Branches) (fuel : ℕ) (rest : List Step) → tallest branches ≤ fuel → branches_by (node_by fuel) (length (branch_answers branches)) (branch_steps branches ++ rest) ≡ Some (branches, rest)
  branches_are_read no_branch fuel rest fits = refl
  branches_are_read (branch answer node others) fuel rest fits =
      rw (append_assoc (node_steps node) (branch_steps others) rest, node_is_read node fuel (branch_steps others ++ rest) (omega (arith, fits)))
      (ap (option_map (with_branch answer node)) (branches_are_read others fuel rest (omega (arith, fits))))

-- nodes whose steps begin one list are the same
pub one_node : (node other : PlanNode) (rest more : List Step) → node_steps node ++ rest ≡ node_steps other ++ more → (node ≡ other) × (rest ≡ more)
one_node node other rest more same =
    let fuel : ℕ = height_of node + height_of other in
    let one : node_by fuel (node_steps node ++ rest) ≡ Some (node, rest) = node_is_read node fuel rest (omega arith) in
    let two : node_by fuel (node_steps other ++ more) ≡ Some (other, more) = node_is_read other fuel more (omega arith) in
    let read : Some (node, rest) ≡ Some (other, more) = sym one ∙ (ap (node_by fuel) same ∙ two) in
    let pair : ◌≡◌ {A = PlanNode × List Step} (node, rest) (other, more) = ap (λ o. unwrap_or o (node, rest)) read in
    (ap (λ (x : PlanNode × List Step). x.0) pair, ap (λ (x : PlanNode × List Step). x.1) pair)

-- ---- what is read is what is there

then_if : {A B : Type 0} (P : A → Type 0) (Q : B → Type 0) (o : Option A) (f : A → Option B) → IfSome o P → ((x : A) → P x → IfSome (f x) Q) → IfSome (option_and_then f o) Q
then_if P Q None f one two = tt
then_if P Q (Some x) f one two = two x one

map_if : {A B : Type 0} (P : A → Type 0) (Q : B → Type 0) (o : Option A) (f : A → B) → IfSome o P → ((x : A) → P x → Q (f x)) → IfSome (option_map f o) Q
map_if P Q None f one two = tt
map_if P Q (Some x) f one two = two x one

abbrev pub IsRead : List Step → PlanNode × List Step → Type 0
IsRead steps x = steps ≡ node_steps x.0 ++ x.1

abbrev pub AreRead : ℕ → List Step → Branches × List Step → Type 0
AreRead n steps x = (steps ≡ branch_steps x.0 ++ x.1) × (n ≡ length (branch_answers x.0))

branches_stand : (read : List Step → Option (PlanNode × List Step)) → ((steps : List Step) → IfSome (read steps) (IsRead steps)) → (n : ℕ) (steps : List Step) → IfSome (branches_by read n steps) (AreRead n steps)
branches_stand read each zero steps = (refl, refl)
branches_stand read each (suc n) [] = tt
branches_stand read each (suc n) (Ask pattern branches ∷ steps) = tt
branches_stand read each (suc n) (Class class ∷ steps) = tt
branches_stand read each (suc n) (On answer ∷ steps) =
    then_if (IsRead steps) (AreRead (suc n) (On answer ∷ steps)) (read steps) (λ x. option_map (with_branch answer x.0) (branches_by read n x.1)) (each steps)
    (λ x first. map_if (AreRead n x.1) (AreRead (suc n) (On answer ∷ steps)) (branches_by read n x.1) (with_branch answer x.0) (branches_stand read each n x.1)
    (λ y others. (ap (λ s. On answer ∷ s) (first ∙ (ap (λ s. node_steps x.0 ++ s) others.0 ∙ sym (append_assoc (node_steps x.0) (branch_steps y.0) y.1))), ap suc others.1)))

pub node_stands : (fuel : ℕ) (steps : List Step) → IfSome (node_by fuel steps) (IsRead steps)
node_stands zero steps = tt
node_stands (suc fuel) [] = tt
node_stands (suc fuel) (Class class ∷ steps) = refl
node_stands (suc fuel) (On answer ∷ steps) = tt
node_stands (suc fuel) (Ask pattern n ∷ steps) =
    map_if (AreRead n steps) (IsRead (Ask pattern n ∷ steps)) (branches_by (node_by fuel) n steps) (with_pattern pattern) (branches_stand (node_by fuel) (node_stands fuel) n steps)
    (λ x are. ap (λ s. Ask pattern n ∷ s) are.0 ∙ ap (λ k. Ask pattern k ∷ (branch_steps x.0 ++ x.1)) are.1)

-- ---- whether a list of steps begins with a node

abbrev pub begins_node : List Step → Bool
begins_node steps = is_some (node_by (length steps) steps)

-- a node has at least as many steps as it takes down
abbrev mutual
  pub height_fits : (node : PlanNode) → height_of node ≤ length (node_steps node)
  height_fits (leaf class) = lit≤ tt
  height_fits (ask pattern branches) = omega (arith, tallest_fits branches)

  pub tallest_fits : (branches : Branches) → tallest branches ≤ length (branch_steps branches)
  tallest_fits no_branch = lit≤ tt
  tallest_fits (branch answer node others) = omega (arith, height_fits node, tallest_fits others, length-append (node_steps node) (branch_steps others))

pub begins_true : (steps : List Step) → BeginsWithNode steps → begins_node steps ≡ true
begins_true steps b =
    let long : length steps ≡ length (node_steps b.node) + length b.rest = ap length b.steps_are ∙ length-append (node_steps b.node) b.rest in
    let read : node_by (length steps) (node_steps b.node ++ b.rest) ≡ Some (b.node, b.rest) = node_is_read b.node (length steps) b.rest (omega (arith, height_fits b.node, long)) in
    ap is_some (ap (node_by (length steps)) b.steps_are ∙ read)

some_begins : (steps : List Step) (o : Option (PlanNode × List Step)) → IfSome o (IsRead steps) → is_some o ≡ true → BeginsWithNode steps
some_begins steps None stands e = absurd (false≢true e)
some_begins steps (Some x) stands e = record { node = x.0; rest = x.1; steps_are = stands }

pub begins_by : (steps : List Step) → begins_node steps ≡ true → BeginsWithNode steps
begins_by steps e = some_begins steps (node_by (length steps) steps) (node_stands (length steps) steps) e
