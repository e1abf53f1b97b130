-- The search for a replacement that keeps more pairs apart, pattern by pattern.
use Rattle.std.proofs.Common.{◌≡◌, ◌∙◌, ℕ, zero, suc, ◌+◌, ◌<◌, ◌≤◌, Bool, true, false, cond, ltb, List, [], ◌∷◌, ◌++◌, length, get_or, set, take, drop, map, flat_map, find, Some, None, refl, sym, ap, arith, Decides}
use Rattle.std.specs.List.{enumerate_from}
use Rattle.std.specs.Option.{option_or}
use Rattle.std.proofs.lemmas.Bool.{lt-ltb, le-ltb}
use Rattle.std.proofs.lemmas.List.{take_more, take_all, drop_more, take-append-drop, set-get_or, get_or_default}
use Rattle.std.proofs.lemmas.List.Concat.{flat_map-append}
use Rattle.std.proofs.lemmas.List.Folds.{find-append}
use Rattle.std.proofs.lemmas.List.FromFn.{length-enumerate_from, get_or-enumerate_from}
use Rattle.net_model.specs.ClassTable.{ClassTable, class_count}
use Rattle.samediff_dict.specs.declared.numbering.Candidates.{Candidates}
use Rattle.samediff_dict.specs.Chosen.{candidates, pairs_apart, replacements, improvement}
use Rattle.samediff_dict.specs.PlaceGroups.{IsFirstAbove, NoneAbove, gain_at}
use Rattle.samediff_dict.specs.Partition.{pairs_between}
use Rattle.samediff_dict.specs.Numbered.{AreCandidates, AlikeFrom}
use Rattle.samediff_dict.proofs.CandidateLemmas.{code_is}
use Rattle.samediff_dict.proofs.StepLemmas.{replaced_apart}

-- ---- `find` over what a function gives

find_none : {A B : Type 0} (test : B → Bool) (f : A → B) (d : A) (xs : List A) → ((k : ℕ) → k < length xs → test (f (get_or xs k d)) ≡ false) → find test (map f xs) ≡ None
find_none test f d [] none = refl
find_none test f d (x ∷ xs) none = ap (λ b. cond b (Some (f x)) (find test (map f xs))) (none 0 (omega arith)) ∙ find_none test f d xs (λ k h. none (suc k) (omega (arith, h)))

find_first : {A B : Type 0} (test : B → Bool) (f : A → B) (d : A) (xs : List A) (at : ℕ) → at < length xs → ((k : ℕ) → k < at → test (f (get_or xs k d)) ≡ false) → test (f (get_or xs at d)) ≡ true → find test (map f xs) ≡ Some (f (get_or xs at d))
find_first test f d [] at h none so = absurd (omega (arith, h))
find_first test f d (x ∷ xs) zero h none so = ap (λ b. cond b (Some (f x)) (find test (map f xs))) so
find_first test f d (x ∷ xs) (suc at) h none so =
    ap (λ b. cond b (Some (f x)) (find test (map f xs))) (none 0 (omega arith)) ∙ find_first test f d xs at (omega (arith, h)) (λ k l. none (suc k) (omega (arith, l))) so

module _ {A B : Type 0} (test : B → Bool) (f : A → List B) (xs : List A) (i : ℕ) (d : A) (h : i < length xs) where
  parts : xs ≡ take i xs ++ (get_or xs i d ∷ drop (i + 1) xs)
  parts = sym (take-append-drop i xs) ∙ ap (λ ys. take i xs ++ ys) (drop_more xs i d h)

  none_more : find test (flat_map f (take i xs)) ≡ None → find test (f (get_or xs i d)) ≡ None → find test (flat_map f (take (i + 1) xs)) ≡ None
  none_more before here =
      ap (λ ys. find test (flat_map f ys)) (take_more xs i d h)
      ∙ (ap (find test) (flat_map-append f (take i xs) (get_or xs i d ∷ []))
      ∙ (find-append test (flat_map f (take i xs)) (flat_map f (get_or xs i d ∷ []))
      ∙ (ap (λ o. option_or o (find test (f (get_or xs i d) ++ []))) before
      ∙ (find-append test (f (get_or xs i d)) [] ∙ ap (λ o. option_or o None) here))))

  found_here : (x : B) → find test (flat_map f (take i xs)) ≡ None → find test (f (get_or xs i d)) ≡ Some x → find test (flat_map f xs) ≡ Some x
  found_here x before here =
      let later = flat_map f (drop (i + 1) xs) in
      ap (λ ys. find test (flat_map f ys)) parts
      ∙ (ap (find test) (flat_map-append f (take i xs) (get_or xs i d ∷ drop (i + 1) xs))
      ∙ (find-append test (flat_map f (take i xs)) (f (get_or xs i d) ++ later)
      ∙ (ap (λ o. option_or o (find test (f (get_or xs i d) ++ later))) before
      ∙ (find-append test (f (get_or xs i d)) later ∙ ap (λ o. option_or o (find test later)) here))))

-- ---- replacements

module _ (t : ClassTable) (rows : List (List (List Bool))) (baselines : List (List Bool)) where
  abbrev pub is_better : List (List Bool) → Bool
  is_better other = ltb (pairs_apart t rows baselines) (pairs_apart t rows other)

  abbrev pub replaced_at : ℕ × List (List Bool) → List (List (List Bool))
  replaced_at x = map (λ answer. set baselines x.0 answer) (candidates t x.1)

  -- No replacement at the first patterns keeps more pairs apart.
  pub record NoneBefore (patterns : ℕ) : Type 0 where
    pub none : find is_better (flat_map replaced_at (take patterns (enumerate_from 0 rows))) ≡ None

  pub none_at_all : (patterns : ℕ) → length rows ≤ patterns → NoneBefore patterns → improvement t rows baselines ≡ None
  unfolding improvement replacements
  none_at_all patterns over none = ap (λ xs. find is_better (flat_map replaced_at xs)) (sym (take_all patterns (enumerate_from 0 rows) (omega (arith, over, length-enumerate_from 0 rows)))) ∙ none.none

  module _ (long : length baselines ≡ length rows) (pattern : ℕ) (h : pattern < length rows) (together : ℕ → ℕ → Bool) (c : Candidates) (current : ℕ)
      (decides : (low high : ℕ) → low < class_count t → high < class_count t → Decides (together low high) (AlikeFrom t rows baselines 0 pattern low high × AlikeFrom t rows baselines (pattern + 1) (length rows) low high))
      (are : AreCandidates t (get_or rows pattern []) c) (known : current < length (candidates t (get_or rows pattern [])))
      (now : get_or baselines pattern [] ≡ get_or (candidates t (get_or rows pattern [])) current []) where
    abbrev row : List (List Bool)
    row = get_or rows pattern []

    abbrev gain : ℕ → ℕ
    gain = gain_at together c.numbers

    abbrev with_answer : ℕ → List (List Bool)
    with_answer answer = set baselines pattern (get_or (candidates t row) answer [])

    apart_with : (answer : ℕ) → answer < length (candidates t row) → pairs_apart t rows (set baselines pattern (get_or (candidates t row) answer [])) ≡ pairs_between (class_count t) together + gain_at together c.numbers answer
    apart_with answer ha = replaced_apart t rows baselines long pattern h together c.numbers answer (get_or (candidates t row) answer []) decides are.one_each (λ class hc. code_is t row c are class answer hc ha)

    apart_now : pairs_apart t rows baselines ≡ pairs_between (class_count t) together + gain_at together c.numbers current
    apart_now = ap (pairs_apart t rows) (sym (set-get_or baselines pattern []) ∙ ap (set baselines pattern) now) ∙ apart_with current known

    not_better : (answer : ℕ) → answer < length (candidates t row) → gain answer ≤ gain current → is_better (with_answer answer) ≡ false
    not_better answer ha less = le-ltb (pairs_apart t rows baselines) (pairs_apart t rows (with_answer answer)) (omega (arith, apart_now, apart_with answer ha, less))

    better : (answer : ℕ) → answer < length (candidates t row) → gain current < gain answer → is_better (with_answer answer) ≡ true
    better answer ha more = lt-ltb (pairs_apart t rows baselines) (pairs_apart t rows (with_answer answer)) (omega (arith, apart_now, apart_with answer ha, more))

    abbrev place : ℕ × List (List Bool)
    place = (pattern, row)

    at_place : get_or (enumerate_from 0 rows) pattern place ≡ place
    at_place =
        let same : 0 + pattern ≡ pattern = omega arith in
        let own : get_or rows pattern row ≡ row = get_or_default rows pattern row [] h in
        let at : get_or (enumerate_from 0 rows) pattern place ≡ (0 + pattern, get_or rows pattern row) = get_or-enumerate_from 0 rows pattern place h in
        at ∙ (λ i. (same i, own i))

    inside : pattern < length (enumerate_from 0 rows)
    inside = omega (arith, h, length-enumerate_from 0 rows)

    pub none_here : NoneBefore pattern → NoneAbove (gain_at together c.numbers) (length (candidates t (get_or rows pattern []))) current → NoneBefore (pattern + 1)
    none_here none_before none = record {
      none = none_more is_better replaced_at (enumerate_from 0 rows) pattern place inside none_before.none
          (ap (λ x. find is_better (replaced_at x)) at_place ∙ find_none is_better (λ answer. set baselines pattern answer) [] (candidates t row) (λ k hk. not_better k hk (none k hk)));
    }

    pub found_at : (answer : ℕ) → NoneBefore pattern → IsFirstAbove (gain_at together c.numbers) (length (candidates t (get_or rows pattern []))) current answer
        → improvement t rows baselines ≡ Some (set baselines pattern (get_or (candidates t (get_or rows pattern [])) answer []))
    unfolding improvement replacements
    found_at answer none_before first =
        found_here is_better replaced_at (enumerate_from 0 rows) pattern place inside (with_answer answer) none_before.none
        (ap (λ x. find is_better (replaced_at x)) at_place
        ∙ find_first is_better (λ a. set baselines pattern a) [] (candidates t row) answer first.within (λ k hk. not_better k (omega (arith, hk, first.within)) (first.first k hk)) (better answer first.within first.above))
