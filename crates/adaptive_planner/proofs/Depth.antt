-- No way of a plan has more asks than there are patterns: a pattern that was asked splits no set below.
use Rattle.std.proofs.Common.{◌≡◌, ◌∙◌, ℕ, zero, suc, ◌+◌, ◌<◌, ◌≤◌, refl, ap, sym, arith, cond, inl, inr}
use Rattle.std.specs.Prelude.{Bool, true, false, not, if◌then◌else◌, List, [], ◌∷◌, length, filter, count_by, ◌⊎◌, nat_lt, ⊤}
use Rattle.std.proofs.lemmas.Bool.{false≢true, ltb-true, lt-ltb}
use Rattle.std.proofs.lemmas.List.Sums.{length-filter}
use Rattle.net_model.specs.ClassTable.{ClassTable}
use Rattle.dict_rows.specs.AnswerTable.{Answers}
use Rattle.dict_rows.proofs.EntryLemmas.{same_bits-Decides}
use Rattle.adaptive_tree.specs.PlanNode.{PlanNode, Branches, leaf, ask, no_branch, branch, depth_of, deepest}
use Rattle.adaptive_planner.specs.Planned.{IsPlanned, ArePlanned, parted_pairs, class_answer, answer_alike, alike_with, unlike}
use Rattle.adaptive_tree.proofs.CountsBelow.{count_below, count_fits, count_fewer}
use Rattle.adaptive_planner.proofs.OnePlan.{count_by-cons, some_unlike}

-- ---- pairs that are split

pub count_filter : (test keep : ℕ → Bool) (xs : List ℕ) → count_by test (filter keep xs) ≤ count_by test xs
count_filter test keep [] = omega arith
count_filter test keep (x ∷ xs) = by_keep (keep x) (count_filter test keep xs)
  where
    by_keep : (b : Bool) → count_by test (filter keep xs) ≤ count_by test xs → count_by test (cond b (x ∷ filter keep xs) (filter keep xs)) ≤ count_by test (x ∷ xs)
    by_keep true fewer = omega (arith, fewer, count_by-cons test x xs, count_by-cons test x (filter keep xs))
    by_keep false fewer = omega (arith, fewer, count_by-cons test x xs)

module _ (t : ClassTable) (table : Answers) (pattern : ℕ) where
  pub parted_filter : (keep : ℕ → Bool) (xs : List ℕ) → parted_pairs t table pattern (filter keep xs) ≤ parted_pairs t table pattern xs
  parted_filter keep [] = omega arith
  parted_filter keep (x ∷ xs) = by_keep (keep x) (parted_filter keep xs)
    where
      by_keep : (b : Bool) → parted_pairs t table pattern (filter keep xs) ≤ parted_pairs t table pattern xs → parted_pairs t table pattern (cond b (x ∷ filter keep xs) (filter keep xs)) ≤ parted_pairs t table pattern (x ∷ xs)
      by_keep true fewer = omega (arith, fewer, count_filter (λ other. not (answer_alike t table pattern x other)) keep xs)
      by_keep false fewer = omega (arith, fewer)

  -- each of the classes gives this answer
  abbrev Give : List Bool → List ℕ → Type 0
  Give answer [] = ⊤
  Give answer (x ∷ xs) = (class_answer t table pattern x ≡ answer) × Give answer xs

  filter_give : (lowest : ℕ) (xs : List ℕ) → Give (class_answer t table pattern lowest) (alike_with t table pattern lowest xs)
  filter_give lowest [] = tt
  filter_give lowest (x ∷ xs) = by_test (answer_alike t table pattern lowest x) refl (filter_give lowest xs)
    where
      by_test : (b : Bool) → answer_alike t table pattern lowest x ≡ b → Give (class_answer t table pattern lowest) (alike_with t table pattern lowest xs) → Give (class_answer t table pattern lowest) (cond b (x ∷ alike_with t table pattern lowest xs) (alike_with t table pattern lowest xs))
      by_test true is rest = (sym ((same_bits-Decides (class_answer t table pattern lowest) (class_answer t table pattern x)).0 is), rest)
      by_test false is rest = rest

  none_differ : (x : ℕ) (answer : List Bool) (xs : List ℕ) → class_answer t table pattern x ≡ answer → Give answer xs → count_by (λ other. not (answer_alike t table pattern x other)) xs ≡ 0
  none_differ x answer [] is give = refl
  none_differ x answer (y ∷ ys) is give =
      let alike : answer_alike t table pattern x y ≡ true = (same_bits-Decides (class_answer t table pattern x) (class_answer t table pattern y)).1 (is ∙ sym give.0) in
      let none : ◌≡◌ {A = ℕ} (if not (answer_alike t table pattern x y) then 1 else 0) 0 = ap (λ b. if not b then 1 else 0) alike in
      omega (arith, none, none_differ x answer ys is give.1, count_by-cons (λ other. not (answer_alike t table pattern x other)) y ys)

  none_parted : (answer : List Bool) (xs : List ℕ) → Give answer xs → parted_pairs t table pattern xs ≡ 0
  none_parted answer [] give = refl
  none_parted answer (x ∷ xs) give = omega (arith, none_differ x answer xs give.0 give.1, none_parted answer xs give.1)

  pub alike_parted : (lowest : ℕ) (xs : List ℕ) → parted_pairs t table pattern (lowest ∷ alike_with t table pattern lowest xs) ≡ 0
  alike_parted lowest xs = none_parted (class_answer t table pattern lowest) (lowest ∷ alike_with t table pattern lowest xs) (refl, filter_give lowest xs)

  pub some_parted : (classes : List ℕ) (branches : Branches) → IsPlanned t table classes (ask pattern branches) → 0 < parted_pairs t table pattern classes
  some_parted [] branches planned = absurd (omega (arith, planned.0))
  some_parted (lowest ∷ classes) branches planned = by_length (unlike t table pattern lowest classes) (some_unlike t table pattern lowest classes branches planned) (length-filter (λ other. not (answer_alike t table pattern lowest other)) classes)
    where
      by_length : (xs : List ℕ) → (xs ≡ [] → ⊥) → length xs ≡ count_by (λ other. not (answer_alike t table pattern lowest other)) classes → 0 < parted_pairs t table pattern (lowest ∷ classes)
      by_length [] some long = absurd (some refl)
      by_length (x ∷ xs) some long = omega (arith, long)

module _ (t : ClassTable) (table : Answers) where
  -- whether a pattern splits a pair of the set
  abbrev pub parts : List ℕ → ℕ → Bool
  parts classes pattern = nat_lt 0 (parted_pairs t table pattern classes)

  parts_by : (classes others : List ℕ) (pattern : ℕ) → parted_pairs t table pattern classes ≤ parted_pairs t table pattern others → parts classes pattern ≡ true → parts others pattern ≡ true
  parts_by classes others pattern fewer holds = lt-ltb 0 (parted_pairs t table pattern others) (omega (arith, fewer, ltb-true 0 (parted_pairs t table pattern classes) holds))

  alike_fewer : (pattern lowest other : ℕ) (classes : List ℕ) → parts (lowest ∷ alike_with t table pattern lowest classes) other ≡ true → parts (lowest ∷ classes) other ≡ true
  alike_fewer pattern lowest other classes holds =
      let keep : ℕ → Bool = answer_alike t table pattern lowest in
      parts_by (lowest ∷ filter keep classes) (lowest ∷ classes) other
      (omega (arith, parted_filter t table other keep classes, count_filter (λ x. not (answer_alike t table other lowest x)) keep classes)) holds

  unlike_fewer : (pattern lowest other : ℕ) (classes : List ℕ) → parts (unlike t table pattern lowest classes) other ≡ true → parts (lowest ∷ classes) other ≡ true
  unlike_fewer pattern lowest other classes holds =
      let keep : ℕ → Bool = λ x. not (answer_alike t table pattern lowest x) in
      parts_by (filter keep classes) (lowest ∷ classes) other (omega (arith, parted_filter t table other keep classes)) holds

  not_parts : (classes : List ℕ) (pattern : ℕ) → parted_pairs t table pattern classes ≡ 0 → parts classes pattern ≡ false
  not_parts classes pattern none = ap (nat_lt 0) none

  mutual
    pub deep : (node : PlanNode) (classes : List ℕ) → IsPlanned t table classes node → depth_of node ≤ count_below (parts classes) (length table.rows)
    deep (leaf class) classes planned = omega arith
    deep (ask pattern branches) classes planned =
        deep_branches branches pattern classes (parts classes) planned.2 (λ other holds. holds) planned.1.within (lt-ltb 0 (parted_pairs t table pattern classes) (some_parted t table pattern classes branches planned))

    deep_branches : (branches : Branches) (pattern : ℕ) (classes : List ℕ) (wanted : ℕ → Bool) → ArePlanned t table pattern classes branches → ((other : ℕ) → parts classes other ≡ true → wanted other ≡ true)
        → pattern < length table.rows → wanted pattern ≡ true → deepest branches + 1 ≤ count_below wanted (length table.rows)
    deep_branches no_branch pattern classes wanted planned more within holds =
        omega (arith, count_fewer (λ k. false) wanted (length table.rows) pattern (λ k e. absurd (false≢true e)) within refl holds)
    deep_branches (branch answer node others) pattern [] wanted planned more within holds = absurd planned
    deep_branches (branch answer node others) pattern (lowest ∷ classes) wanted planned more within holds =
        let set : List ℕ = lowest ∷ alike_with t table pattern lowest classes in
        let here : depth_of node ≤ count_below (parts set) (length table.rows) = deep node set planned.1 in
        let fewer : count_below (parts set) (length table.rows) + 1 ≤ count_below wanted (length table.rows)
        = count_fewer (parts set) wanted (length table.rows) pattern (λ other e. more other (alike_fewer pattern lowest other classes e)) within (not_parts set pattern (alike_parted t table pattern lowest classes)) holds in
        let rest : deepest others + 1 ≤ count_below wanted (length table.rows)
        = deep_branches others pattern (unlike t table pattern lowest classes) wanted planned.2 (λ other e. more other (unlike_fewer pattern lowest other classes e)) within holds in
        omega (arith, here, fewer, rest)

  pub short_ways : (node : PlanNode) (classes : List ℕ) → IsPlanned t table classes node → depth_of node ≤ length table.rows
  short_ways node classes planned = omega (arith, deep node classes planned, count_fits (parts classes) (length table.rows))
