-- Classes listed at places, and those of them that are together.
use Rattle.std.proofs.Common.{◌≡◌, ◌≢◌, ◌∙◌, ℕ, zero, suc, ◌+◌, ◌<◌, ◌≤◌, Bool, true, false, not, eqb, ◌&&◌, ◌⊎◌, List, length, get_or, refl, sym, ap, subst, arith, inl, inr}
use Rattle.std.specs.Prelude.{AllPairs}
use Rattle.std.specs.Bool.{beq}
use Rattle.std.specs.List.{position_or_len}
use Rattle.std.proofs.lemmas.Bool.{cases_eq, cases_lt, eqb-true, eq-eqb, ne_eqb, and_parts, false_from_ne_true}
use Rattle.std.proofs.lemmas.List.{get_or_default, get_or_past}
use Rattle.std.proofs.lemmas.List.Sums.{position_or_len_is, passes_at_first}
use Rattle.samediff_dict.specs.declared.partition.Partition.{Partition}
use Rattle.samediff_dict.specs.PlaceGroups.{AreBelow, gain_at, in_one, tells_apart}
use Rattle.samediff_dict.specs.Partition.{group_in, are_together, IsListed, IsPartition}
use Rattle.samediff_dict.proofs.PairLemmas.{sum_to, sum_to-zero, one_if, pairs_to, pairs_are, pairs_same}

-- ---- sums and pairs over rising numbers

-- the first values rise, and stay below a limit
record Rises (at : ℕ → ℕ) (many limit : ℕ) : Type 0 where
  pub up : (i j : ℕ) → i < j → j < many → at i < at j
  pub below : (j : ℕ) → j < many → at j < limit

module _ (at : ℕ → ℕ) (many limit : ℕ) where
  without_last : Rises at (suc many) (suc limit) → Rises at many limit
  without_last rises = record {
    up = λ i j l h. rises.up i j l (omega (arith, h));
    below = λ j h. omega (arith, rises.up j many h (omega arith), rises.below many (omega arith));
  }

  -- no value is the last number below the limit
  last_missed : Rises at (suc many) (suc limit) → at many ≢ limit → (j : ℕ) → j < suc many → at j ≢ limit
  last_missed rises ne j h = elim (cases_eq j many) [
    | inl e ↦ λ same. ne (ap at (sym e) ∙ same)
    | inr other ↦ λ same. omega (arith, rises.up j many (omega (arith, h, other)) (omega arith), rises.below many (omega arith), same)
  ]

lower : (at : ℕ → ℕ) (many limit : ℕ) → Rises at many (suc limit) → ((j : ℕ) → j < many → at j ≢ limit) → Rises at many limit
lower at many limit rises missed = record { up = rises.up; below = λ j h. let ne = missed j h in omega (arith, rises.below j h, ne) }

few_rise : (at : ℕ → ℕ) (many limit : ℕ) → Rises at many limit → many ≤ limit
few_rise at zero limit rises = omega arith
few_rise at (suc many) zero rises = absurd (omega (arith, rises.below many (omega arith)))
few_rise at (suc many) (suc limit) rises = omega (arith, few_rise at many limit (without_last at many limit rises))

-- a number that isn't among the first values and isn't the next one either
missed_more : (at : ℕ → ℕ) (many k : ℕ) → ((j : ℕ) → j < many → at j ≢ k) → at many ≢ k → (j : ℕ) → j < suc many → at j ≢ k
missed_more at many k missed ne j h = elim (cases_eq j many) [
  | inl e ↦ λ same. ne (ap at (sym e) ∙ same)
  | inr other ↦ missed j (omega (arith, h, other))
]

-- a sum to which only the values add
sum_risen : (at f : ℕ → ℕ) (many limit : ℕ) → Rises at many limit → ((k : ℕ) → k < limit → ((j : ℕ) → j < many → at j ≢ k) → f k ≡ 0) → sum_to f limit ≡ sum_to (λ j. f (at j)) many
unfolding sum_to
sum_risen at f zero zero rises none = refl
sum_risen at f (suc many) zero rises none = absurd (omega (arith, rises.below many (omega arith)))
sum_risen at f zero (suc limit) rises none =
    let before : sum_to f limit ≡ 0 = sum_risen at f zero limit (lower at zero limit rises (λ j h. absurd (omega (arith, h)))) (λ k h missed. none k (omega (arith, h)) missed) in
    omega (arith, before, none limit (omega arith) (λ j h. absurd (omega (arith, h))))
sum_risen at f (suc many) (suc limit) rises none = elim (cases_eq (at many) limit) [
  | inl e ↦
      let before : sum_to f limit ≡ sum_to (λ j. f (at j)) many =
      sum_risen at f many limit (without_last at many limit rises) (λ k h missed. none k (omega (arith, h)) (missed_more at many k missed (λ same. omega (arith, same, e, h)))) in
      omega (arith, before, ap f e)
  | inr ne ↦
      let missed = last_missed at many limit rises ne in
      let before : sum_to f limit ≡ sum_to (λ j. f (at j)) many + f (at many) = sum_risen at f (suc many) limit (lower at (suc many) limit rises missed) (λ k h out. none k (omega (arith, h)) out) in
      omega (arith, before, none limit (omega arith) missed)
]

-- pairs, if only those of two values pass
pairs_risen : (at : ℕ → ℕ) (p : ℕ → ℕ → Bool) (many limit : ℕ) → Rises at many limit → ((low high : ℕ) → low < high → high < limit → ((j : ℕ) → j < many → at j ≢ low) → p low high ≡ false)
    → ((low high : ℕ) → low < high → high < limit → ((j : ℕ) → j < many → at j ≢ high) → p low high ≡ false) → pairs_to limit p ≡ pairs_to many (λ i j. p (at i) (at j))
unfolding sum_to
pairs_risen at p zero zero rises lows highs = refl
pairs_risen at p (suc many) zero rises lows highs = absurd (omega (arith, rises.below many (omega arith)))
pairs_risen at p zero (suc limit) rises lows highs =
    let before : pairs_to limit p ≡ 0 = pairs_risen at p zero limit (lower at zero limit rises (λ j h. absurd (omega (arith, h)))) (λ low high l h missed. lows low high l (omega (arith, h)) missed) (λ low high l h missed. highs low high l (omega (arith, h)) missed) in
    omega (arith, before, sum_to-zero (λ low. one_if (p low limit)) limit (λ low h. ap one_if (highs low limit h (omega arith) (λ j k. absurd (omega (arith, k))))))
pairs_risen at p (suc many) (suc limit) rises lows highs = elim (cases_eq (at many) limit) [
  | inl e ↦
      let fewer = without_last at many limit rises in
      let before : pairs_to limit p ≡ pairs_to many (λ i j. p (at i) (at j)) =
      pairs_risen at p many limit fewer (λ low high l h missed. lows low high l (omega (arith, h)) (missed_more at many low missed (λ same. omega (arith, same, e, l, h))))
      (λ low high l h missed. highs low high l (omega (arith, h)) (missed_more at many high missed (λ same. omega (arith, same, e, h)))) in
      let row : sum_to (λ low. one_if (p low limit)) limit ≡ sum_to (λ i. one_if (p (at i) limit)) many =
      sum_risen at (λ low. one_if (p low limit)) many limit fewer (λ low h missed. ap one_if (lows low limit h (omega arith) (missed_more at many low missed (λ same. omega (arith, same, e, h))))) in
      let last : sum_to (λ i. one_if (p (at i) limit)) many ≡ sum_to (λ i. one_if (p (at i) (at many))) many = ap (λ k. sum_to (λ i. one_if (p (at i) k)) many) (sym e) in
      omega (arith, before, row, last)
  | inr ne ↦
      let missed = last_missed at many limit rises ne in
      let before : pairs_to limit p ≡ pairs_to many (λ i j. p (at i) (at j)) + sum_to (λ i. one_if (p (at i) (at many))) many =
      pairs_risen at p (suc many) limit (lower at (suc many) limit rises missed) (λ low high l h out. lows low high l (omega (arith, h)) out) (λ low high l h out. highs low high l (omega (arith, h)) out) in
      omega (arith, before, sum_to-zero (λ low. one_if (p low limit)) limit (λ low h. ap one_if (highs low limit h (omega arith) missed)))
]

rises : (xs : List ℕ) (limit : ℕ) → AllPairs (λ low high. low < high) xs → AreBelow xs limit → Rises (λ k. get_or xs k 0) (length xs) limit
rises xs limit up below = record { up = λ i j l h. up i j 0 l h; below = below }

-- ascending numbers below a limit are no more than the limit
pub ascending_few : (xs : List ℕ) (limit : ℕ) → AllPairs (λ low high. low < high) xs → AreBelow xs limit → length xs ≤ limit
ascending_few xs limit up below = few_rise (λ k. get_or xs k 0) (length xs) limit (rises xs limit up below)

-- ---- the places of classes

-- Two classes are at places of one group.
pub record ArePlaced (classes group_of : List ℕ) (low high : ℕ) : Type 0 where
  pub low_at : ℕ
  pub high_at : ℕ
  pub low_within : low_at < length classes
  pub high_within : high_at < length classes
  pub low_is : get_or classes low_at 0 ≡ low
  pub high_is : get_or classes high_at 0 ≡ high
  pub same : get_or group_of low_at 0 ≡ get_or group_of high_at 0

module _ {n : ℕ} {p : Partition} (listed : IsListed n p) where
  abbrev is_class : ℕ → ℕ → Bool
  is_class class other = eqb other class

  pub listed_few : length p.classes.items ≤ n
  listed_few = ascending_few p.classes.items n listed.ascending listed.below

  -- the place of a listed class is the first one that has it
  pub position_at : (k : ℕ) → k < length p.classes.items → position_or_len (λ other. eqb other (get_or p.classes.items k 0)) p.classes.items ≡ k
  position_at k h =
      let class = get_or p.classes.items k 0 in
      position_or_len_is (is_class class) p.classes.items k 0 (omega (arith, h)) (λ i l. ne_eqb (get_or p.classes.items i 0) class (λ e. omega (arith, e, listed.ascending i k 0 l h))) (λ _. eq-eqb class class refl)

  -- the group of a listed class is that of its place
  pub group_at : (k : ℕ) → k < length p.classes.items → group_in p (get_or p.classes.items k 0) ≡ get_or p.groups.group_of.items k 0
  unfolding group_in
  group_at k h =
      let class = get_or p.classes.items k 0 in
      ap (λ i. get_or p.groups.group_of.items i (p.groups.count + class)) (position_at k h) ∙ get_or_default p.groups.group_of.items k (p.groups.count + class) 0 (omega (arith, h, listed.one_each))

  -- a class is listed, or alone
  place_cases : (class : ℕ) → ((k : ℕ) × (k < length p.classes.items) × (get_or p.classes.items k 0 ≡ class)) ⊎ (group_in p class ≡ p.groups.count + class)
  unfolding group_in
  place_cases class =
      let first = position_or_len (is_class class) p.classes.items in
      elim (cases_lt first (length p.classes.items)) [
        | inl h ↦ inl (first, h, eqb-true (get_or p.classes.items first 0) class (passes_at_first (is_class class) p.classes.items 0 h))
        | inr over ↦ inr (get_or_past p.groups.group_of.items first (p.groups.count + class) (omega (arith, over, listed.one_each)))
      ]

  -- two classes of one group are both listed
  pub placed : (low high : ℕ) → low ≢ high → group_in p low ≡ group_in p high → ArePlaced p.classes.items p.groups.group_of.items low high
  placed low high ne e =
      let at : (class k : ℕ) → k < length p.classes.items → get_or p.classes.items k 0 ≡ class → group_in p class ≡ get_or p.groups.group_of.items k 0 = λ class k h is. sym (ap (group_in p) is) ∙ group_at k h in
      let within : (k : ℕ) → k < length p.classes.items → get_or p.groups.group_of.items k 0 < p.groups.count = λ k h. listed.within k (omega (arith, h, listed.one_each)) in
      elim (place_cases low) [
        | inl w ↦ elim (place_cases high) [
          | inl v ↦ record {
            low_at = w.0;
            high_at = v.0;
            low_within = w.1;
            high_within = v.1;
            low_is = w.2;
            high_is = v.2;
            same = sym (at low w.0 w.1 w.2) ∙ (e ∙ at high v.0 v.1 v.2);
          }
          | inr alone ↦ absurd (omega (arith, alone, e, at low w.0 w.1 w.2, within w.0 w.1))
        ]
        | inr alone ↦ elim (place_cases high) [
          | inl v ↦ absurd (omega (arith, alone, e, at high v.0 v.1 v.2, within v.0 v.1))
          | inr also ↦ absurd (ne (omega (arith, alone, also, e)))
        ]
      ]

  -- it is a partition if those that are together are at places of one group, and those of one group are together
  pub partition_by : (together : ℕ → ℕ → Type 0) → ((class : ℕ) → together class class)
      → ((low high : ℕ) → low < n → high < n → low ≢ high → together low high → ArePlaced p.classes.items p.groups.group_of.items low high)
      → ((i j : ℕ) → i < length p.classes.items → j < length p.classes.items → get_or p.groups.group_of.items i 0 ≡ get_or p.groups.group_of.items j 0 → together (get_or p.classes.items i 0) (get_or p.classes.items j 0))
      → IsPartition n together p
  partition_by together itself into out = record {
    listed = listed;
    same = λ low high hl hh t. elim (cases_eq low high) [
      | inl e ↦ ap (group_in p) e
      | inr ne ↦
          let both = into low high hl hh ne t in
          sym (ap (group_in p) both.low_is) ∙ (group_at both.low_at both.low_within ∙ (both.same ∙ (sym (group_at both.high_at both.high_within) ∙ ap (group_in p) both.high_is)))
    ];
    together_are = λ low high hl hh t. elim (cases_eq low high) [
      | inl e ↦ subst (together low) e (itself low)
      | inr ne ↦
          let both = placed low high ne t in
          subst (λ k. together low k) both.high_is (subst (λ k. together k (get_or p.classes.items both.high_at 0)) both.low_is (out both.low_at both.high_at both.low_within both.high_within both.same))
    ];
  }

  -- ---- pairs of classes that are together are pairs of places

  pub pairs_placed : (test : ℕ → ℕ → Bool) → ((low high : ℕ) → test low high ≡ true → group_in p low ≡ group_in p high)
      → pairs_to n test ≡ pairs_to (length p.classes.items) (λ i j. test (get_or p.classes.items i 0) (get_or p.classes.items j 0))
  pairs_placed test together =
      pairs_risen (λ k. get_or p.classes.items k 0) test (length p.classes.items) n (rises p.classes.items n listed.ascending listed.below)
      (λ low high l h missed. false_from_ne_true (test low high) (λ so. let both = placed low high (λ e. omega (arith, e, l)) (together low high so) in missed both.low_at both.low_within both.low_is))
      (λ low high l h missed. false_from_ne_true (test low high) (λ so. let both = placed low high (λ e. omega (arith, e, l)) (together low high so) in missed both.high_at both.high_within both.high_is))

  same_together : (i j : ℕ) → i < length p.classes.items → j < length p.classes.items → are_together p (get_or p.classes.items i 0) (get_or p.classes.items j 0) ≡ in_one p.groups.group_of.items i j
  same_together i j hi hj = λ k. eqb (group_at i hi k) (group_at j hj k)

  pub together_placed : pairs_to n (are_together p) ≡ pairs_to (length p.classes.items) (in_one p.groups.group_of.items)
  together_placed =
      pairs_placed (are_together p) (λ low high so. eqb-true (group_in p low) (group_in p high) so)
      ∙ pairs_same (length p.classes.items) (λ i j. are_together p (get_or p.classes.items i 0) (get_or p.classes.items j 0)) (in_one p.groups.group_of.items) (λ i j l h. same_together i j (omega (arith, l, h)) h)

pub gain_placed : {p : Partition} (answers own : List ℕ) → IsListed (length answers) p → length own ≡ length p.classes.items → ((k : ℕ) → k < length p.classes.items → get_or own k 0 ≡ get_or answers (get_or p.classes.items k 0) 0)
    → (answer : ℕ) → gain_at (in_one p.groups.group_of.items) own answer ≡ gain_at (are_together p) answers answer
unfolding gain_at
gain_placed {p} answers own listed long own_are answer =
    let m = length p.classes.items in
    let class : ℕ → ℕ = λ k. get_or p.classes.items k 0 in
    let test = tells_apart (are_together p) answers answer in
    let own_test = tells_apart (in_one p.groups.group_of.items) own answer in
    pairs_are (length own) own_test
    ∙ (ap (λ k. pairs_to k own_test) long
    ∙ (pairs_same m own_test (λ i j. test (class i) (class j))
    (λ i j l h. let hi : i < length p.classes.items = omega (arith, l, h) in
    λ k. sym (same_together listed i j hi h) k && not (beq (eqb (own_are i hi k) answer) (eqb (own_are j h k) answer)))
    ∙ (sym (pairs_placed listed test (λ low high so. eqb-true (group_in p low) (group_in p high) (and_parts (are_together p low high) (not (beq (eqb (get_or answers low 0) answer) (eqb (get_or answers high 0) answer))) so).0))
    ∙ sym (pairs_are (length answers) test))))
