-- What a reader of a plan holds of the steps so far, and what it says of the next line.
use Rattle.std.specs.Prelude.{◌≡◌, ℕ, ◌+◌, ◌<◌, ◌==◌, ◌||◌, Bool, true, false, List, [], ◌∷◌, ◌++◌, length, map, reverse, ⊤}
use Rattle.std.specs.List.{list_any}
use Rattle.std.specs.Borrow.{Bor}
use Rattle.std.specs.BTreeSet.{BTreeSet, contains}
use Rattle.std.specs.Ordering.{nat_cmp, is_eq}
use Rattle.std.specs.declared.cmp.Ordering.{Ordering}
use Rattle.std.specs.Cmp.Lexicographic.{slice_cmp}
use Rattle.text_fields.specs.Fields.{digit_bits, AreDigitsOf}
use Rattle.adaptive_tree.specs.declared.fault.PlanKind.{PlanKind}
use Rattle.adaptive_tree.specs.declared.fault.PlanKind.TheVariants.{Order, Value}
use Rattle.adaptive_tree.specs.declared.line.Form.{Form}
use Rattle.adaptive_tree.specs.declared.line.Form.TheVariants as form
use Rattle.adaptive_tree.specs.declared.steps.Plan.{Plan}
use Rattle.adaptive_tree.specs.declared.steps.Step.{Step}
use Rattle.adaptive_tree.specs.declared.steps.Step.TheVariants.{Ask, On, Class}
use Rattle.adaptive_tree.specs.declared.reader.OpenAsk.{OpenAsk}
use Rattle.adaptive_tree.specs.declared.reader.Next.{Next}
use Rattle.adaptive_tree.specs.declared.reader.Next.TheVariants as next
use Rattle.adaptive_tree.specs.declared.reader.Reader.{Reader}
use Rattle.adaptive_tree.specs.PlanNode.{PlanNode, branch_answers, node_steps}
use Rattle.adaptive_tree.specs.PlanText.{PlanLine, head, step}
use Rattle.adaptive_tree.specs.WellFormed.{BeginPlan, IsRightStep, IsRightPlanLine, with_line}
use Rattle.adaptive_tree.specs.Growth.{AskAbove, Growth, before_node, before_branch, grown, steps_above, steps_so_far, HaveRoom, IsRoomy, MayStepCome, has_answer}

-- ---- open asks

abbrev pub digits_order : Bor (List ℕ) → Bor (List ℕ) → Ordering
digits_order a b = slice_cmp nat_cmp a.now b.now

-- The open ask is of this pattern and has `count` branches, and those for the answers `begun` have begun.
pub record IsOpenAsk (o : OpenAsk) (pattern count : ℕ) (begun : List (List Bool)) : Type 0 where
  pub pattern_is : o.pattern ≡ pattern
  pub left_is : o.left + length begun ≡ count
  pub answers : (digits : Bor (List ℕ)) (answer : List Bool) → AreDigitsOf answer digits.now → contains digits_order o.answers digits ≡ has_answer begun answer

-- The open asks, the innermost first, are those above a place.
abbrev pub AreOpenAsks : List OpenAsk → List AskAbove → Type 0
AreOpenAsks [] [] = ⊤
AreOpenAsks [] (ask ∷ above) = ⊥
AreOpenAsks (o ∷ open_asks) [] = ⊥
AreOpenAsks (o ∷ open_asks) (ask ∷ above) = IsOpenAsk o ask.pattern ask.count (branch_answers ask.whole ++ ask.answer ∷ []) × AreOpenAsks open_asks above

abbrev pub HasOpenAsks : List OpenAsk → Growth → Type 0
HasOpenAsks open_asks (before_node above) = AreOpenAsks open_asks above
HasOpenAsks [] (before_branch above pattern count whole) = ⊥
HasOpenAsks (o ∷ open_asks) (before_branch above pattern count whole) = IsOpenAsk o pattern count (branch_answers whole) × AreOpenAsks open_asks above
HasOpenAsks open_asks (grown node) = open_asks ≡ []

abbrev pub asks_pattern : List OpenAsk → ℕ → Bool
asks_pattern open_asks pattern = list_any (λ o. o.pattern == pattern) open_asks

-- No two open asks have the same pattern.
abbrev pub AskEachOnce : List OpenAsk → Type 0
AskEachOnce [] = ⊤
AskEachOnce (o ∷ open_asks) = (asks_pattern open_asks o.pattern ≡ false) × AskEachOnce open_asks

-- The set has exactly the patterns of the open asks, which are all different.
pub record IsAskedSet (asked : BTreeSet ℕ) (open_asks : List OpenAsk) : Type 0 where
  pub has : (pattern : ℕ) → contains nat_cmp asked pattern ≡ asks_pattern open_asks pattern
  pub once : AskEachOnce open_asks

-- One more branch has begun, for the answer of these digits.
pub record HasBegun (old new : OpenAsk) (digits : Bor (List ℕ)) : Type 0 where
  pub pattern_is : new.pattern ≡ old.pattern
  pub left_is : new.left + 1 ≡ old.left
  pub answers : (other : Bor (List ℕ)) → contains digits_order new.answers other ≡ (is_eq (digits_order digits other) || contains digits_order old.answers other)

-- ---- how far a reader has come

abbrev pub IsNextOf : Next → Growth → Type 0
IsNextOf next.Node (before_node above) = ⊤
IsNextOf next.Node (before_branch above pattern count whole) = ⊥
IsNextOf next.Node (grown node) = ⊥
IsNextOf next.Branch (before_node above) = ⊥
IsNextOf next.Branch (before_branch above pattern count whole) = ⊤
IsNextOf next.Branch (grown node) = ⊥
IsNextOf next.Nothing (before_node above) = ⊥
IsNextOf next.Nothing (before_branch above pattern count whole) = ⊥
IsNextOf next.Nothing (grown node) = ⊤

abbrev pub is_node : Next → Bool
is_node next.Node = true
is_node next.Branch = false
is_node next.Nothing = false

abbrev pub is_branch : Next → Bool
is_branch next.Node = false
is_branch next.Branch = true
is_branch next.Nothing = false

abbrev pub goes_on : Next → Bool
goes_on next.Node = true
goes_on next.Branch = true
goes_on next.Nothing = false

-- Steps that have come so far have this next step, these open asks, the innermost first, and this set of their
-- patterns.
pub record IsOpenAt (next : Next) (open_asks : List OpenAsk) (asked : BTreeSet ℕ) (so_far : Growth) : Type 0 where
  pub room : IsRoomy so_far
  pub next_is : IsNextOf next so_far
  pub open_are : HasOpenAsks open_asks so_far
  pub asked_is : IsAskedSet asked open_asks

-- The steps have come to some place that has this next step, these open asks, the innermost first, and this set.
pub record HaveCome (steps : List Step) (next : Next) (open_asks : List OpenAsk) (asked : BTreeSet ℕ) : Type 0 where
  pub so_far : Growth
  pub steps_are : steps ≡ steps_so_far so_far
  pub at : IsOpenAt next open_asks asked so_far

abbrev pub IsReadingPlan : Reader → Type 0
IsReadingPlan r = HaveCome r.plan.steps r.next (reverse r.open.items) r.asked

-- The steps end with a node, below these open asks, the innermost first.
pub record HasNodeEnded (steps : List Step) (open_asks : List OpenAsk) (asked : BTreeSet ℕ) : Type 0 where
  pub above : List AskAbove
  pub node : PlanNode
  pub steps_are : steps ≡ steps_above above ++ node_steps node
  pub room : HaveRoom above
  pub open_are : AreOpenAsks open_asks above
  pub asked_is : IsAskedSet asked open_asks

-- ---- the next line

-- the lines of a plan up to its last step
abbrev pub lines_so_far : Plan → List PlanLine
lines_so_far plan = head plan.positions plan.patterns plan.classes ∷ map step plan.steps

-- The step may come next, and its values are right.
pub record IsRightNext (r : Reader) (s : Step) : Type 0 where
  pub may : (given : IsReadingPlan r) → MayStepCome given.so_far s
  pub right : IsRightStep r.plan s

abbrev pub IsRightForm : Reader → Form → Type 0
IsRightForm r (form.Head positions patterns classes) = ⊥
IsRightForm r (form.Ask pattern branches) = IsRightNext r (Ask pattern branches)
IsRightForm r (form.On digits) = IsRightNext r (On (digit_bits digits.now))
IsRightForm r (form.Class class) = IsRightNext r (Class class)
IsRightForm r form.End = ⊥

-- The line may not come after those so far, or it may come and its values are wrong.
pub data IsWrongLine (plan : Plan) (line : PlanLine) (kind : PlanKind) : Type 0 where
  may_not_come : ¬ BeginPlan (lines_so_far plan ++ line ∷ []) → kind ≡ Order → IsWrongLine plan line kind
  has_wrong_values : BeginPlan (lines_so_far plan ++ line ∷ []) → ¬ IsRightPlanLine (lines_so_far plan) line → kind ≡ Value → IsWrongLine plan line kind

-- The plan of the new reader is the old one with the line's step added.
pub record IsLineAdded (old new : Reader) (line : PlanLine) : Type 0 where
  pub reading : IsReadingPlan new
  pub plan_is : new.plan ≡ with_line old.plan line

-- ---- the innermost ask, which is the first

-- There is an innermost ask. It has this pattern, and all its branches have begun.
abbrev pub IsInnermostWhole : List OpenAsk → ℕ → Type 0
IsInnermostWhole [] pattern = ⊥
IsInnermostWhole (o ∷ open_asks) pattern = (o.left ≡ 0) × (o.pattern ≡ pattern)

-- There is no open ask, or a branch of the innermost ask is still to begin.
abbrev pub IsInnermostOpen : List OpenAsk → Type 0
IsInnermostOpen [] = ⊤
IsInnermostOpen (o ∷ open_asks) = 0 < o.left

-- whether there is an innermost ask that has a branch for the answer of these digits
abbrev pub innermost_has : List OpenAsk → Bor (List ℕ) → Bool
innermost_has [] digits = false
innermost_has (o ∷ open_asks) digits = contains digits_order o.answers digits

-- There is an innermost ask, and a branch of it is still to begin.
abbrev pub HasBranchLeft : List OpenAsk → Type 0
HasBranchLeft [] = ⊥
HasBranchLeft (o ∷ open_asks) = 0 < o.left

-- One more branch of the innermost ask has begun, for the answer of these digits, and the other asks are as before.
pub record IsInnermostBegun (old new : List OpenAsk) (digits : Bor (List ℕ)) : Type 0 where
  pub before : OpenAsk
  pub after : OpenAsk
  pub others : List OpenAsk
  pub old_is : old ≡ before ∷ others
  pub new_is : new ≡ after ∷ others
  pub begun : HasBegun before after digits
