-- Classes that answers tell apart have a plan.
use Rattle.std.proofs.Common.{◌≡◌, ◌≢◌, ◌∙◌, ℕ, zero, suc, ◌+◌, ◌<◌, ◌≤◌, refl, ap, sym, subst, arith, cond, inl, inr}
use Rattle.std.specs.Prelude.{Bool, true, false, not, if◌then◌else◌, List, [], ◌∷◌, length, filter, ◌⊎◌}
use Rattle.std.specs.List.{range_with_len, AllByRecursion}
use Rattle.std.proofs.lemmas.List.Filters.{length-filter_both}
use Rattle.net_model.specs.ClassTable.{ClassTable, class_count, class_at, representative}
use Rattle.class_refine.proofs.Refined.{representative-member}
use Rattle.dict_rows.specs.AnswerTable.{Answers}
use Rattle.dict_rows.proofs.EntryLemmas.{same_bits-Decides}
use Rattle.adaptive_tree.specs.declared.steps.Plan.{Plan}
use Rattle.adaptive_tree.specs.PlanNode.{PlanNode, Branches, leaf, ask, no_branch, branch, node_steps}
use Rattle.adaptive_planner.specs.Planned.{IsPlanned, ArePlanned, PartsMost, IsPlan, parted_pairs, class_answer, answer_alike, alike_with, unlike}
use Rattle.adaptive_planner.specs.Laws.{CanBePlanned, HaveOnePlan}
use Rattle.adaptive_planner.proofs.OnePlan.{count_by-cons, passed_all, plan_once}
use Rattle.adaptive_planner.proofs.Depth.{alike_parted}

-- ---- the first of the greatest

record IsFirstMost (score : ℕ → ℕ) (n best : ℕ) : Type 0 where
  within : best < n
  most : (other : ℕ) → other < n → score other ≤ score best
  first : (other : ℕ) → other < best → score other < score best

last_or_below : (k n : ℕ) → k < suc n → (k ≡ n) ⊎ (k < n)
last_or_below k n low = grind (arith, low)

less_or_not : (a b : ℕ) → (a < b) ⊎ (b ≤ a)
less_or_not a b = grind arith

module _ (score : ℕ → ℕ) where
  up_to : (n best : ℕ) → ((k : ℕ) → k < n → score k ≤ score best) → score n ≤ score best → (k : ℕ) → (k ≡ n) ⊎ (k < n) → score k ≤ score best
  up_to n best below last k (inl here) = omega (arith, last, ap score here)
  up_to n best below last k (inr low) = below k low

  next_most : (n best : ℕ) → IsFirstMost score n best → (score best < score n) ⊎ (score n ≤ score best) → (b : ℕ) × IsFirstMost score (suc n) b
  next_most n best is (inl more) = (
    n,
    record {
      within = omega arith;
      most = λ k low. up_to n n (λ j below. omega (arith, more, is.most j below)) (omega arith) k (last_or_below k n low);
      first = λ k low. omega (arith, more, is.most k low);
    },
  )
  next_most n best is (inr fewer) = (
    best,
    record {
      within = omega (arith, is.within);
      most = λ k low. up_to n best is.most fewer k (last_or_below k n low);
      first = is.first;
    },
  )

  first_most : (n : ℕ) → (best : ℕ) × IsFirstMost score (suc n) best
  first_most zero = (0, record { within = omega arith; most = λ k low. up_to 0 0 (λ j below. absurd (omega (arith, below))) (omega arith) k (last_or_below k 0 low); first = λ k low. absurd (omega (arith, low)) })
  first_most (suc n) = let before : (best : ℕ) × IsFirstMost score (suc n) best = first_most n in next_most (suc n) before.0 before.1 (less_or_not (score before.0) (score (suc n)))

-- ---- lists

pub range_all : (P : ℕ → Type 0) (first n : ℕ) → ((k : ℕ) → first ≤ k → k < first + n → P k) → AllByRecursion P (range_with_len first n)
range_all P first zero each = tt
range_all P first (suc n) each = (each first (omega arith) (omega arith), range_all P (first + 1) n (λ k low high. each k (omega (arith, low)) (omega (arith, high))))

pub filter_all : (P : ℕ → Type 0) (keep : ℕ → Bool) (xs : List ℕ) → AllByRecursion P xs → AllByRecursion P (filter keep xs)
filter_all P keep [] all = tt
filter_all P keep (x ∷ xs) all = by_keep (keep x) (filter_all P keep xs all.1)
  where
    by_keep : (b : Bool) → AllByRecursion P (filter keep xs) → AllByRecursion P (cond b (x ∷ filter keep xs) (filter keep xs))
    by_keep true rest = (all.0, rest)
    by_keep false rest = rest

module _ (t : ClassTable) (table : Answers) where
  -- some pattern tells two classes apart
  pub record Differ (x y : ℕ) : Type 0 where
    pub pattern : ℕ
    pub within : pattern < length table.rows
    pub unlike_at : answer_alike t table pattern x y ≡ false

  -- some pattern tells any two classes of the list apart
  abbrev AreApart : List ℕ → Type 0
  AreApart [] = Unit {0}
  AreApart (x ∷ xs) = AllByRecursion (Differ x) xs × AreApart xs

  filter_apart : (keep : ℕ → Bool) (xs : List ℕ) → AreApart xs → AreApart (filter keep xs)
  filter_apart keep [] apart = tt
  filter_apart keep (x ∷ xs) apart = by_keep (keep x) (filter_apart keep xs apart.1)
    where
      by_keep : (b : Bool) → AreApart (filter keep xs) → AreApart (cond b (x ∷ filter keep xs) (filter keep xs))
      by_keep true rest = (filter_all (Differ x) keep xs apart.0, rest)
      by_keep false rest = rest

  -- ---- a pattern that splits most pairs

  some_pair : (x y : ℕ) (xs : List ℕ) (d : Differ x y) → 0 < parted_pairs t table d.pattern (x ∷ y ∷ xs)
  some_pair x y xs d =
      let here : ◌≡◌ {A = ℕ} (if not (answer_alike t table d.pattern x y) then 1 else 0) 1 = ap (λ b. if not b then 1 else 0) d.unlike_at in
      omega (arith, here, count_by-cons (λ other. not (answer_alike t table d.pattern x other)) y xs)

  record Best (classes : List ℕ) : Type 0 where
    pattern : ℕ
    most : PartsMost t table classes pattern
    parts : 0 < parted_pairs t table pattern classes

  best_of_first : (classes : List ℕ) (some : ℕ) → some < length table.rows → 0 < parted_pairs t table some classes → (rows : ℕ) → length table.rows ≡ rows → Best classes
  best_of_first classes some within parts zero long = absurd (omega (arith, within, long))
  best_of_first classes some within parts (suc n) long =
      let b : (best : ℕ) × IsFirstMost (λ pattern. parted_pairs t table pattern classes) (suc n) best = first_most (λ pattern. parted_pairs t table pattern classes) n in
      record {
        pattern = b.0;
        most = record { within = omega (arith, b.1.within, long); most = λ other low. b.1.most other (omega (arith, low, long)); lowest = b.1.first };
        parts = omega (arith, parts, b.1.most some (omega (arith, within, long)));
      }

  best_of_apart : (x y : ℕ) (xs : List ℕ) → AreApart (x ∷ y ∷ xs) → Best (x ∷ y ∷ xs)
  best_of_apart x y xs apart = let d : Differ x y = apart.0.0 in best_of_first (x ∷ y ∷ xs) d.pattern d.within (some_pair x y xs d) (length table.rows) refl

  -- if a pattern splits a pair, some class answers otherwise than the lowest
  fewer_alike : (pattern lowest : ℕ) (classes : List ℕ) → 0 < parted_pairs t table pattern (lowest ∷ classes) → 0 < length (unlike t table pattern lowest classes)
  fewer_alike pattern lowest classes parts = by_rest (unlike t table pattern lowest classes) refl
    where
      by_rest : (rest : List ℕ) → unlike t table pattern lowest classes ≡ rest → 0 < length rest
      by_rest (x ∷ rest) is = omega arith
      by_rest [] is =
          let all : alike_with t table pattern lowest classes ≡ classes = passed_all (answer_alike t table pattern lowest) classes is in
          let none : parted_pairs t table pattern (lowest ∷ alike_with t table pattern lowest classes) ≡ 0 = alike_parted t table pattern lowest classes in
          absurd (omega (arith, parts, sym (ap (λ set. parted_pairs t table pattern (lowest ∷ set)) all) ∙ none))

  -- ---- nodes

  abbrev SomeNode : List ℕ → Type 0
  SomeNode classes = (node : PlanNode) × IsPlanned t table classes node

  abbrev SomeBranches : ℕ → List ℕ → Type 0
  SomeBranches pattern classes = (branches : Branches) × ArePlanned t table pattern classes branches

  pub parts_add : (pattern lowest : ℕ) (classes : List ℕ) → length (alike_with t table pattern lowest classes) + length (unlike t table pattern lowest classes) ≡ length classes
  parts_add pattern lowest classes = length-filter_both (answer_alike t table pattern lowest) (λ other. not (answer_alike t table pattern lowest other)) (λ other. refl) classes

  join_branch : (pattern lowest : ℕ) (classes : List ℕ) → SomeNode (lowest ∷ alike_with t table pattern lowest classes) → SomeBranches pattern (unlike t table pattern lowest classes) → SomeBranches pattern (lowest ∷ classes)
  join_branch pattern lowest classes one others = (branch (class_answer t table pattern lowest) one.0 others.0, (refl, one.1, others.1))

  module _ (fuel : ℕ) (smaller : (classes : List ℕ) → length classes ≤ fuel → 0 < length classes → AreApart classes → SomeNode classes) where
    alike_node : (pattern lowest : ℕ) (classes : List ℕ) → length (alike_with t table pattern lowest classes) + 1 ≤ fuel → AreApart (lowest ∷ classes) → SomeNode (lowest ∷ alike_with t table pattern lowest classes)
    alike_node pattern lowest classes fits apart =
        smaller (lowest ∷ alike_with t table pattern lowest classes) (omega (arith, fits)) (omega arith)
        (filter_all (Differ lowest) (answer_alike t table pattern lowest) classes apart.0, filter_apart (answer_alike t table pattern lowest) classes apart.1)

    some_branches : (m : ℕ) (pattern : ℕ) (classes : List ℕ) → length classes ≤ m → length classes ≤ fuel → AreApart classes → SomeBranches pattern classes
    some_branches m pattern [] few fits apart = (no_branch, tt)
    some_branches zero pattern (lowest ∷ classes) few fits apart = absurd (omega (arith, few))
    some_branches (suc m) pattern (lowest ∷ classes) few fits apart =
        join_branch pattern lowest classes
        (alike_node pattern lowest classes (omega (arith, fits, parts_add pattern lowest classes)) apart)
        (some_branches m pattern (unlike t table pattern lowest classes) (omega (arith, few, parts_add pattern lowest classes)) (omega (arith, fits, parts_add pattern lowest classes))
        (filter_apart (λ other. not (answer_alike t table pattern lowest other)) classes apart.1))

    asked_node : (lowest next : ℕ) (classes : List ℕ) → length (lowest ∷ next ∷ classes) ≤ suc fuel → AreApart (lowest ∷ next ∷ classes) → SomeNode (lowest ∷ next ∷ classes)
    asked_node lowest next classes fits apart =
        let rest : List ℕ = next ∷ classes in
        let b : Best (lowest ∷ next ∷ classes) = best_of_apart lowest next classes apart in
        let others : 0 < length (unlike t table b.pattern lowest rest) = fewer_alike b.pattern lowest rest b.parts in
        let both : length (alike_with t table b.pattern lowest rest) + length (unlike t table b.pattern lowest rest) ≡ length rest = parts_add b.pattern lowest rest in
        let made : SomeBranches b.pattern (lowest ∷ rest) = join_branch b.pattern lowest rest
        (alike_node b.pattern lowest rest (omega (arith, fits, others, both)) apart)
        (some_branches fuel b.pattern (unlike t table b.pattern lowest rest) (omega (arith, fits, both)) (omega (arith, fits, both)) (filter_apart (λ other. not (answer_alike t table b.pattern lowest other)) rest apart.1)) in
        (ask b.pattern made.0, (omega arith, b.most, made.1))

  some_node : (fuel : ℕ) (classes : List ℕ) → length classes ≤ fuel → 0 < length classes → AreApart classes → SomeNode classes
  some_node fuel [] few some apart = absurd (omega (arith, some))
  some_node zero (x ∷ classes) few some apart = absurd (omega (arith, few))
  some_node (suc fuel) (x ∷ []) few some apart = (leaf x, refl)
  some_node (suc fuel) (x ∷ y ∷ classes) few some apart = asked_node fuel (some_node fuel) x y classes few apart

  -- ---- all classes

  -- two numbers answer alike to the first patterns, or one of these tells them apart
  abbrev Told : ℕ → ℕ → ℕ → Type 0
  Told x y n = ((pattern : ℕ) → pattern < n → class_answer t table pattern x ≡ class_answer t table pattern y) ⊎ ((pattern : ℕ) × (pattern < n) × (answer_alike t table pattern x y ≡ false))

  one_more : (x y n : ℕ) → Told x y n → (b : Bool) → answer_alike t table n x y ≡ b → Told x y (suc n)
  one_more x y n (inr found) b is = inr (found.0, omega (arith, found.1), found.2)
  one_more x y n (inl same) false is = inr (n, omega arith, is)
  one_more x y n (inl same) true is = inl (λ pattern low. at_last pattern (last_or_below pattern n low))
    where
      at_last : (pattern : ℕ) → (pattern ≡ n) ⊎ (pattern < n) → class_answer t table pattern x ≡ class_answer t table pattern y
      at_last pattern (inl here) = subst (λ p. class_answer t table p x ≡ class_answer t table p y) (sym here) ((same_bits-Decides (class_answer t table n x) (class_answer t table n y)).0 is)
      at_last pattern (inr low) = same pattern low

  told : (x y n : ℕ) → Told x y n
  told x y zero = inl (λ pattern low. absurd (omega (arith, low)))
  told x y (suc n) = one_more x y n (told x y n) (answer_alike t table n x y) refl

  differ_by : (x y : ℕ) → Told x y (length table.rows) → (((pattern : ℕ) → pattern < length table.rows → class_answer t table pattern x ≡ class_answer t table pattern y) → ⊥) → Differ x y
  differ_by x y (inl same) apart = absurd (apart same)
  differ_by x y (inr found) apart = record { pattern = found.0; within = found.1; unlike_at = found.2 }

  pub classes_differ : CanBePlanned t table → (x y : ℕ) → x < class_count t → y < class_count t → x ≢ y → Differ x y
  classes_differ can x y low high other =
      let lead : (representative t x < length t.class_of) × (class_at t (representative t x) ≡ x) = representative-member t can.whole x low in
      let second : (representative t y < length t.class_of) × (class_at t (representative t y) ≡ y) = representative-member t can.whole y high in
      differ_by x y (told x y (length table.rows)) (λ same.
      other (sym lead.1 ∙ ((can.apart.same (representative t x) (representative t y) (omega (arith, lead.0, can.apart.numbers)) (omega (arith, second.0, can.apart.numbers))).1 same ∙ second.1)))

  range_apart : CanBePlanned t table → (first n : ℕ) → first + n ≤ class_count t → AreApart (range_with_len first n)
  range_apart can first zero fits = tt
  range_apart can first (suc n) fits =
      (range_all (Differ first) (first + 1) n (λ k low high. classes_differ can first k (omega (arith, fits)) (omega (arith, high, fits)) (λ e. omega (arith, low, e))), range_apart can (first + 1) n (omega (arith, fits)))

  pub range-length : (first n : ℕ) → length (range_with_len first n) ≡ n
  range-length first zero = refl
  range-length first (suc n) = ap suc (range-length (first + 1) n)

  abbrev plan_with : PlanNode → Plan
  plan_with node = record { positions = table.positions; patterns = length table.rows; classes = class_count t; steps = node_steps node }

pub have_one_plan : HaveOnePlan
have_one_plan t table can =
    let classes : List ℕ = range_with_len 0 (class_count t) in
    let long : length classes ≡ class_count t = range-length t table 0 (class_count t) in
    let made : SomeNode t table classes = some_node t table (class_count t) classes (omega (arith, long)) (omega (arith, long, can.whole.patterns)) (range_apart t table can 0 (class_count t) (omega arith)) in
    let is : IsPlan t table (plan_with t table made.0) = record { positions_are = refl; patterns_are = refl; classes_are = refl; node = made.0; planned = made.1; steps_are = refl } in
    (plan_with t table made.0, is, λ other other_is. plan_once t table other (plan_with t table made.0) other_is is)
