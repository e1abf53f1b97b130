-- What the steps before a place leave open: which step may come next, and what the rules require of its values.
use Rattle.std.proofs.Common.{◌≡◌, ◌∙◌, ℕ, zero, suc, ◌+◌, ◌-◌, ◌<◌, ◌≤◌, refl, ap, sym, subst, arith, append_assoc, append-nil}
use Rattle.std.specs.Prelude.{Bool, List, [], ◌∷◌, ◌++◌, length, map, Contains}
use Rattle.adaptive_tree.specs.declared.steps.Step.{Step}
use Rattle.adaptive_tree.specs.declared.steps.Step.TheVariants.{Ask, On, Class}
use Rattle.adaptive_tree.specs.declared.steps.Plan.{Plan}
use Rattle.adaptive_tree.specs.PlanNode.{PlanNode, Branches, leaf, ask, no_branch, branch, branch_answers, node_steps, branch_steps}
use Rattle.adaptive_tree.specs.PlanText.{PlanLine, head, step, end}
use Rattle.adaptive_tree.specs.WellFormed.{BeginPlan, IsRightAsk, IsRightBranch, IsAskedAbove, HasBranch}
use Rattle.adaptive_tree.specs.Refusal.{AreWhole}
use Rattle.adaptive_tree.specs.Growth.{AskAbove, ask_steps, steps_above, Growth, before_node, before_branch, grown, steps_so_far, HaveRoom, IsRoomy, MayStepCome}
use Rattle.adaptive_tree.proofs.NodeReading.{node_by, node_is_read, height_of, one_node}
use Rattle.adaptive_tree.proofs.StepTests.{not_asked, no_branch_yet, steps_in, behind_steps, behind_first, steps_of_plan, end_of_plan, steps_begin, end_begins, some_none}
use Rattle.adaptive_tree.proofs.RightTrees.{OnlyAsk, NoneHas, Unread, HasNoBranch, asks_in, has_in, nothing_above, nothing_has, ask_unread, none_behind_on, on_steps, new_pattern, new_answer}
use Rattle.adaptive_tree.proofs.TreesRight.{AreOpen, open_in, nothing_read, asked_same, has_whole}

-- ---- the asks above a place

abbrev pub patterns_above : List AskAbove → List ℕ
patterns_above above = map (λ ask. ask.pattern) above

only_ask : (above : List AskAbove) → OnlyAsk (steps_above above) (patterns_above above)
only_ask [] = nothing_above
only_ask (a ∷ above) = asks_in (steps_above above) (patterns_above above) a.pattern a.count a.whole a.answer (only_ask above)

none_has : (above : List AskAbove) → HaveRoom above → NoneHas (steps_above above)
none_has [] room = nothing_has
none_has (a ∷ above) room = has_in (steps_above above) a.pattern a.count a.whole a.answer room.0 (none_has above room.1)

are_open : (above : List AskAbove) → HaveRoom above → AreOpen (steps_above above) (patterns_above above)
are_open [] room = λ pattern among. absurd (omega (arith, among.1))
are_open (a ∷ above) room = open_in (steps_above above) (patterns_above above) a.pattern a.count a.whole a.answer room.0 (are_open above room.1)

pub right_ask : (plan : Plan) (above : List AskAbove) (pattern branches : ℕ) → plan.steps ≡ steps_above above → pattern < plan.patterns → ¬ Contains (patterns_above above) pattern → 2 ≤ branches → IsRightAsk plan pattern branches
right_ask plan above pattern branches are within new several = record {
  within = within;
  new = subst (λ steps. ¬ IsAskedAbove steps pattern) (sym are) (not_asked (steps_above above) pattern (new_pattern plan (steps_above above) (patterns_above above) pattern (only_ask above) new));
  several = several;
}

pub asked_again : (plan : Plan) (above : List AskAbove) (pattern branches : ℕ) → plan.steps ≡ steps_above above → HaveRoom above → Contains (patterns_above above) pattern → ¬ IsRightAsk plan pattern branches
asked_again plan above pattern branches are room among right =
    right.new (subst (λ steps. IsAskedAbove steps pattern) (sym are) (asked_same (steps_above above) (steps_above above ++ []) pattern (sym (append-nil (steps_above above))) (are_open above room pattern among [] nothing_read)))

pub right_branch : (plan : Plan) (above : List AskAbove) (pattern count : ℕ) (whole : Branches) (answer : List Bool) → plan.steps ≡ steps_above above ++ ask_steps pattern count whole → HaveRoom above → length (branch_answers whole) < count
    → length answer ≡ plan.positions → ¬ Contains (branch_answers whole) answer → IsRightBranch plan answer
right_branch plan above pattern count whole answer are room few wide new = record {
  width = wide;
  new = subst (λ steps. ¬ HasBranch steps answer) (sym are)
      (no_branch_yet (steps_above above ++ ask_steps pattern count whole) answer (new_answer plan (steps_above above) pattern count whole answer few (none_has above room) new));
}

pub branched_again : (plan : Plan) (above : List AskAbove) (pattern count : ℕ) (whole : Branches) (answer : List Bool) → plan.steps ≡ steps_above above ++ ask_steps pattern count whole → length (branch_answers whole) < count
    → Contains (branch_answers whole) answer → ¬ IsRightBranch plan answer
branched_again plan above pattern count whole answer are few among right =
    right.new (subst (λ steps. HasBranch steps answer) (sym are) (has_whole (steps_above above) pattern count whole answer few among))

-- ---- steps that no node begins with

unread_below : (above : List AskAbove) → HaveRoom above → (rest : List Step) → Unread rest → Unread (steps_above above ++ rest)
unread_below [] room rest unread = unread
unread_below (a ∷ above) room rest unread = λ fuel.
    ap (node_by fuel) (on_steps (steps_above above) a.pattern a.count a.whole a.answer rest)
    ∙ unread_below above room.1 (Ask a.pattern a.count ∷ (branch_steps a.whole ++ On a.answer ∷ rest)) (ask_unread a.pattern a.count a.whole (On a.answer ∷ rest) room.0 (none_behind_on a.answer rest unread)) fuel

unread_branch : (above : List AskAbove) (pattern count : ℕ) (whole : Branches) → HaveRoom above → length (branch_answers whole) < count → (rest : List Step) → HasNoBranch rest
    → Unread ((steps_above above ++ ask_steps pattern count whole) ++ rest)
unread_branch above pattern count whole room few rest none = λ fuel.
    ap (node_by fuel) (append_assoc (steps_above above) (ask_steps pattern count whole) rest)
    ∙ unread_below above room (Ask pattern count ∷ (branch_steps whole ++ rest)) (ask_unread pattern count whole rest few none) fuel

no_whole : (node : PlanNode) (steps : List Step) → node_steps node ≡ steps → Unread steps → ⊥
no_whole node steps are unread =
    let read = node_is_read node (height_of node) [] (omega arith) in
    some_none (node, []) (sym read ∙ (ap (node_by (height_of node)) (append-nil (node_steps node) ∙ are) ∙ unread (height_of node)))

unread_on : (answer : List Bool) (rest : List Step) → Unread (On answer ∷ rest)
unread_on answer rest zero = refl
unread_on answer rest (suc fuel) = refl

-- ---- lines that may not come

module _ (positions patterns classes : ℕ) where
  abbrev pub lines_with : List Step → List PlanLine
  lines_with steps = head positions patterns classes ∷ map step steps

  steps_front : (steps : List Step) (s : Step) (more : List PlanLine) → steps_in ((map step steps ++ step s ∷ []) ++ more) ≡ steps ++ s ∷ steps_in more
  steps_front [] s more = refl
  steps_front (x ∷ steps) s more = ap (λ rest. x ∷ rest) (steps_front steps s more)

  steps_before : (steps : List Step) (line : PlanLine) (more : List PlanLine) → steps_in (line ∷ more) ≡ [] → steps_in ((map step steps ++ line ∷ []) ++ more) ≡ steps
  steps_before steps line more none = ap steps_in (append_assoc (map step steps) (line ∷ []) more) ∙ steps_of_plan steps (line ∷ more) none

  lines_behind : (steps : List Step) (line : PlanLine) (more : List PlanLine) → behind_steps (line ∷ more) ≡ line ∷ more → behind_steps ((map step steps ++ line ∷ []) ++ more) ≡ line ∷ more
  lines_behind steps line more same = ap behind_steps (append_assoc (map step steps) (line ∷ []) more) ∙ end_of_plan steps (line ∷ more) same

  by_step : (so_far : Growth) (s : Step) (node : PlanNode) (more : List Step) → IsRoomy so_far → ¬ MayStepCome so_far s → node_steps node ≡ steps_so_far so_far ++ s ∷ more → ⊥
  by_step (before_node above) (Ask pattern branches) node more room may are = may tt
  by_step (before_node above) (On answer) node more room may are = no_whole node (steps_above above ++ On answer ∷ more) are (unread_below above room (On answer ∷ more) (unread_on answer more))
  by_step (before_node above) (Class class) node more room may are = may tt
  by_step (before_branch above pattern count whole) (Ask other branches) node more room may are = no_whole node _ are (unread_branch above pattern count whole room.1 room.0 (Ask other branches ∷ more) (λ fuel n. refl))
  by_step (before_branch above pattern count whole) (On answer) node more room may are = may tt
  by_step (before_branch above pattern count whole) (Class class) node more room may are = no_whole node _ are (unread_branch above pattern count whole room.1 room.0 (Class class ∷ more) (λ fuel n. refl))
  by_step (grown whole) s node more room may are =
      let same : (node ≡ whole) × ([] ≡ s ∷ more) = one_node node whole [] (s ∷ more) (append-nil (node_steps node) ∙ are) in
      absurd (omega (arith, ap length same.1))

  pub step_misplaced : (so_far : Growth) (s : Step) → IsRoomy so_far → ¬ MayStepCome so_far s → ¬ BeginPlan (lines_with (steps_so_far so_far) ++ step s ∷ [])
  step_misplaced so_far s room may b =
      by_step so_far s b.node.node (steps_in b.more) room may (steps_begin positions patterns classes (map step (steps_so_far so_far) ++ step s ∷ []) b ∙ steps_front (steps_so_far so_far) s b.more)

  by_end : (so_far : Growth) (node : PlanNode) → IsRoomy so_far → ((whole : PlanNode) → so_far ≡ grown whole → ⊥) → node_steps node ≡ steps_so_far so_far → ⊥
  by_end (before_node above) node room other are = no_whole node (steps_above above ++ []) (are ∙ sym (append-nil (steps_above above))) (unread_below above room [] nothing_read)
  by_end (before_branch above pattern count whole) node room other are =
      no_whole node _ (are ∙ sym (append-nil (steps_above above ++ ask_steps pattern count whole))) (unread_branch above pattern count whole room.1 room.0 [] (λ fuel n. refl))
  by_end (grown whole) node room other are = other whole refl

  pub end_misplaced : (so_far : Growth) → IsRoomy so_far → ((whole : PlanNode) → so_far ≡ grown whole → ⊥) → ¬ BeginPlan (lines_with (steps_so_far so_far) ++ end ∷ [])
  end_misplaced so_far room other b =
      by_end so_far b.node.node room other (steps_begin positions patterns classes (map step (steps_so_far so_far) ++ end ∷ []) b ∙ steps_before (steps_so_far so_far) end b.more refl)

  is_end : PlanLine → ℕ
  is_end (head a b c) = 0
  is_end (step s) = 0
  is_end end = 1

  first_is_end : List PlanLine → ℕ
  first_is_end [] = 0
  first_is_end (line ∷ lines) = is_end line

  pub head_misplaced : (steps : List Step) (a b c : ℕ) → ¬ BeginPlan (lines_with steps ++ head a b c ∷ [])
  unfolding is_end first_is_end
  head_misplaced steps a b c begun =
      let e = end_begins positions patterns classes (map step steps ++ head a b c ∷ []) begun ∙ lines_behind steps (head a b c) begun.more refl in
      absurd (omega (arith, ap first_is_end e))

  -- a line after the last one
  pub more_misplaced : (steps : List Step) (line : PlanLine) → ¬ BeginPlan ((lines_with steps ++ end ∷ []) ++ line ∷ [])
  more_misplaced steps line b =
      let assoc : ((map step steps ++ end ∷ []) ++ line ∷ []) ++ b.more ≡ (map step steps ++ end ∷ []) ++ (line ∷ b.more) = append_assoc (map step steps ++ end ∷ []) (line ∷ []) b.more in
      let e = end_begins positions patterns classes ((map step steps ++ end ∷ []) ++ line ∷ []) b ∙ (ap behind_steps assoc ∙ lines_behind steps end (line ∷ b.more) refl) in
      absurd (omega (arith, ap length e))

  pub not_whole : (steps : List Step) → ¬ AreWhole (lines_with steps)
  not_whole steps w =
      let e : end ∷ [] ≡ behind_steps (map step steps) = sym (end_of_plan w.plan.steps (end ∷ []) refl) ∙ ap (λ all. behind_steps (behind_first all)) w.lines_are in
      absurd (omega (arith, ap length (e ∙ (ap behind_steps (sym (append-nil (map step steps))) ∙ end_of_plan steps [] refl))))

  -- ---- and lines that may

  fill : ℕ → Branches
  fill zero = no_branch
  fill (suc n) = branch [] (leaf 0) (fill n)

  length-fill : (n : ℕ) → length (branch_answers (fill n)) ≡ n
  unfolding fill
  length-fill zero = refl
  length-fill (suc n) = ap suc (length-fill n)

  with_others : Branches → Branches → Branches
  with_others no_branch others = others
  with_others (branch answer node first) others = branch answer node (with_others first others)

  others_steps : (first others : Branches) → branch_steps (with_others first others) ≡ branch_steps first ++ branch_steps others
  unfolding with_others
  others_steps no_branch others = refl
  others_steps (branch answer node first) others = ap (λ steps. On answer ∷ (node_steps node ++ steps)) (others_steps first others) ∙ ap (λ steps. On answer ∷ steps) (sym (append_assoc (node_steps node) (branch_steps first) (branch_steps others)))

  others_count : (first others : Branches) → length (branch_answers (with_others first others)) ≡ length (branch_answers first) + length (branch_answers others)
  unfolding with_others
  others_count no_branch others = omega arith
  others_count (branch answer node first) others = omega (arith, others_count first others)

  -- A whole node begins with the steps above a place and a node there.
  pub record Completed (front : List Step) : Type 0 where
    pub root : PlanNode
    pub more : List Step
    pub steps_are : node_steps root ≡ front ++ more

  -- the steps of an ask whose branches are some whole ones, one for an answer and others, below the same front
  wrapped : (front : List Step) (pattern count n : ℕ) (whole extra branches : Branches) (answer : List Bool) (node : PlanNode) (more : List Step) → n ≡ count → branch_steps branches ≡ branch_steps whole ++ On answer ∷ (node_steps node ++ branch_steps extra)
      → (front ++ Ask pattern n ∷ branch_steps branches) ++ more ≡ (((front ++ ask_steps pattern count whole) ++ On answer ∷ []) ++ node_steps node) ++ (branch_steps extra ++ more)
  wrapped front pattern count n whole extra branches answer node more same steps =
      append_assoc front (Ask pattern n ∷ branch_steps branches) more
      ∙ ap (λ (k : ℕ). front ++ Ask pattern k ∷ (branch_steps branches ++ more)) same
      ∙ ap (λ (all : List Step). front ++ Ask pattern count ∷ (all ++ more)) steps
      ∙ ap (λ (all : List Step). front ++ Ask pattern count ∷ all) (append_assoc (branch_steps whole) (On answer ∷ (node_steps node ++ branch_steps extra)) more)
      ∙ ap (λ (all : List Step). front ++ Ask pattern count ∷ (branch_steps whole ++ On answer ∷ all)) (append_assoc (node_steps node) (branch_steps extra) more)
      ∙ sym (on_steps front pattern count whole answer (node_steps node ++ (branch_steps extra ++ more)))
      ∙ sym (append_assoc ((front ++ ask_steps pattern count whole) ++ On answer ∷ []) (node_steps node) (branch_steps extra ++ more))

  completed : (above : List AskAbove) → HaveRoom above → (node : PlanNode) → Completed (steps_above above ++ node_steps node)
  completed [] room node = record { root = node; more = []; steps_are = sym (append-nil (node_steps node)) }
  completed (a ∷ above) room node =
      let left : ℕ = a.count - length (branch_answers a.whole) - 1 in
      let extra : Branches = fill left in
      let branches : Branches = with_others a.whole (branch a.answer node extra) in
      let outer : Completed (steps_above above ++ node_steps (ask a.pattern branches)) = completed above room.1 (ask a.pattern branches) in
      let sizes : length (branch_answers branches) ≡ length (branch_answers a.whole) + (length (branch_answers extra) + 1) = omega (arith, others_count a.whole (branch a.answer node extra)) in
      let count : length (branch_answers branches) ≡ a.count = omega (arith, room.0, sizes, length-fill left) in
      record {
        root = outer.root;
        more = branch_steps extra ++ outer.more;
        steps_are = outer.steps_are ∙ wrapped (steps_above above) a.pattern a.count (length (branch_answers branches)) a.whole extra branches a.answer node outer.more count (others_steps a.whole (branch a.answer node extra));
      }

  begun_by : (front : List Step) (s : Step) (root : PlanNode) (more : List Step) → node_steps root ≡ front ++ s ∷ more → BeginPlan (lines_with front ++ step s ∷ [])
  begun_by front s root more are = record {
    plan = record { positions = positions; patterns = patterns; classes = classes; steps = node_steps root };
    node = record { node = root; steps_are = refl };
    more = map step more ++ end ∷ [];
    begins = ap (λ steps. head positions patterns classes ∷ (map step steps ++ end ∷ [])) are ∙ ap (λ lines. head positions patterns classes ∷ lines) (mapped front);
  }
    where
      mapped : (front : List Step) → map step (front ++ s ∷ more) ++ end ∷ [] ≡ (map step front ++ step s ∷ []) ++ (map step more ++ end ∷ [])
      mapped [] = refl
      mapped (x ∷ front) = ap (λ lines. step x ∷ lines) (mapped front)

  pub step_begins : (so_far : Growth) (s : Step) → IsRoomy so_far → MayStepCome so_far s → BeginPlan (lines_with (steps_so_far so_far) ++ step s ∷ [])
  step_begins (before_node above) (Ask pattern branches) room may =
      let node : PlanNode = ask pattern (fill branches) in
      let c : Completed (steps_above above ++ node_steps node) = completed above room node in
      begun_by (steps_above above) (Ask pattern branches) c.root (branch_steps (fill branches) ++ c.more)
      (c.steps_are ∙ (append_assoc (steps_above above) (node_steps node) c.more ∙ ap (λ n. steps_above above ++ Ask pattern n ∷ (branch_steps (fill branches) ++ c.more)) (length-fill branches)))
  step_begins (before_node above) (On answer) room may = absurd may
  step_begins (before_node above) (Class class) room may =
      let c : Completed (steps_above above ++ node_steps (leaf class)) = completed above room (leaf class) in
      begun_by (steps_above above) (Class class) c.root c.more (c.steps_are ∙ append_assoc (steps_above above) (Class class ∷ []) c.more)
  step_begins (before_branch above pattern count whole) (Ask other branches) room may = absurd may
  step_begins (before_branch above pattern count whole) (On answer) room may =
      let a : AskAbove = record { pattern = pattern; count = count; whole = whole; answer = answer } in
      let c : Completed (steps_above (a ∷ above) ++ node_steps (leaf 0)) = completed (a ∷ above) room (leaf 0) in
      begun_by (steps_above above ++ ask_steps pattern count whole) (On answer) c.root (Class 0 ∷ c.more)
      (c.steps_are ∙ (append_assoc (steps_above (a ∷ above)) (Class 0 ∷ []) c.more ∙ append_assoc (steps_above above ++ ask_steps pattern count whole) (On answer ∷ []) (Class 0 ∷ c.more)))
  step_begins (before_branch above pattern count whole) (Class class) room may = absurd may
  step_begins (grown node) s room may = absurd may

  pub end_begins_plan : (node : PlanNode) → BeginPlan (lines_with (node_steps node) ++ end ∷ [])
  end_begins_plan node = record {
    plan = record { positions = positions; patterns = patterns; classes = classes; steps = node_steps node };
    node = record { node = node; steps_are = refl };
    more = [];
    begins = sym (append-nil (lines_with (node_steps node) ++ end ∷ []));
  }

  pub head_begins : BeginPlan (head positions patterns classes ∷ [])
  head_begins = record {
    plan = record { positions = positions; patterns = patterns; classes = classes; steps = Class 0 ∷ [] };
    node = record { node = leaf 0; steps_are = refl };
    more = step (Class 0) ∷ end ∷ [];
    begins = refl;
  }
