-- The elements that pass a test in the first part of a list, and the numbers of a range that do.
use Rattle.std.proofs.Common.{◌≡◌, ℕ, zero, suc, ◌+◌, ◌-◌, ◌<◌, ◌≤◌, List, [], ◌∷◌, ◌++◌, length, take, get_or, refl, sym, ◌∙◌, ap, arith}
use Rattle.std.specs.Prelude.{Bool, true, false, cond, filter}
use Rattle.std.specs.List.{range_with_len}
use Rattle.std.proofs.lemmas.List.{append-nil, take_all, take_more}
use Rattle.std.proofs.lemmas.List.Elements.{filter-append, filter_more}
use Rattle.net_model.proofs.Orders.{range_with_len_more}

-- ---- lists that have one element more

module _ (test : ℕ → Bool) (first : ℕ → List ℕ) (at : ℕ → ℕ) (count : ℕ) (grows : (n : ℕ) → n < count → first (n + 1) ≡ first n ++ at n ∷ []) where
  one_more : (n : ℕ) → n < count → filter test (first (n + 1)) ≡ filter test (first n) ++ cond (test (at n)) (at n ∷ []) []
  one_more n h = ap (filter test) (grows n h) ∙ filter-append test (first n) (at n ∷ [])

  no_more : (gap from to : ℕ) → from + gap ≡ to → to ≤ count → ((n : ℕ) → from ≤ n → n < to → test (at n) ≡ false) → filter test (first to) ≡ filter test (first from)
  no_more zero from to e h none = let same : to ≡ from = omega arith in ap (λ n. filter test (first n)) same
  no_more (suc gap) from to e h none =
      let last : ℕ = from + gap in
      let more : to ≡ last + 1 = omega arith in
      ap (λ n. filter test (first n)) more
      ∙ one_more last (omega arith)
      ∙ ap (λ b. filter test (first last) ++ cond b (at last ∷ []) []) (none last (omega arith) (omega arith))
      ∙ append-nil (filter test (first last))
      ∙ no_more gap from last refl (omega arith) (λ n low high. none n low (omega arith))

  next_one : (from n : ℕ) → from ≤ n → n < count → ((k : ℕ) → from ≤ k → k < n → test (at k) ≡ false) → test (at n) ≡ true → filter test (first (n + 1)) ≡ filter test (first from) ++ at n ∷ []
  next_one from n low h none passes =
      one_more n h
      ∙ ap (λ b. filter test (first n) ++ cond b (at n ∷ []) []) passes
      ∙ ap (λ ys. ys ++ at n ∷ []) (no_more (n - from) from n (omega arith) (omega arith) none)

-- the first elements of a list: none passes in a gap, and the next one passes
module _ (test : ℕ → Bool) (xs : List ℕ) where
  pub filter_gap : (gap from to : ℕ) → from + gap ≡ to → to ≤ length xs → ((n : ℕ) → from ≤ n → n < to → test (get_or xs n 0) ≡ false) → filter test (take to xs) ≡ filter test (take from xs)
  filter_gap = no_more test (λ n. take n xs) (λ n. get_or xs n 0) (length xs) (λ n h. take_more xs n 0 h)

  pub filter_next : (from at : ℕ) → from ≤ at → at < length xs → ((n : ℕ) → from ≤ n → n < at → test (get_or xs n 0) ≡ false) → test (get_or xs at 0) ≡ true
      → filter test (take (at + 1) xs) ≡ filter test (take from xs) ++ get_or xs at 0 ∷ []
  filter_next = next_one test (λ n. take n xs) (λ n. get_or xs n 0) (length xs) (λ n h. take_more xs n 0 h)

-- the same for the first numbers
module _ (test : ℕ → Bool) where
  pub range_gap : (gap from to : ℕ) → from + gap ≡ to → ((n : ℕ) → from ≤ n → n < to → test n ≡ false) → filter test (range_with_len 0 to) ≡ filter test (range_with_len 0 from)
  range_gap gap from to e = no_more test (range_with_len 0) (λ n. n) to (λ n h. range_with_len_more 0 (n + 1) n n refl (omega arith)) gap from to e (omega arith)

  pub range_next : (from at : ℕ) → from ≤ at → ((n : ℕ) → from ≤ n → n < at → test n ≡ false) → test at ≡ true → filter test (range_with_len 0 (at + 1)) ≡ filter test (range_with_len 0 from) ++ at ∷ []
  range_next from at low = next_one test (range_with_len 0) (λ n. n) (at + 1) (λ n h. range_with_len_more 0 (n + 1) n n refl (omega arith)) from at low (omega arith)

-- if none passes, none is left
pub filter_none : (test : ℕ → Bool) (xs : List ℕ) → ((n : ℕ) → test n ≡ false) → filter test xs ≡ []
filter_none test xs none =
    let all : ℕ = length xs in
    ap (filter test) (sym (take_all all xs (omega arith))) ∙ filter_gap test xs all 0 all (omega arith) (omega arith) (λ n low high. none (get_or xs n 0))

-- two tests that agree on the elements
module _ (test other : ℕ → Bool) (xs : List ℕ) (same : (n : ℕ) → n < length xs → test (get_or xs n 0) ≡ other (get_or xs n 0)) where
  filter_same_until : (n : ℕ) → n ≤ length xs → filter test (take n xs) ≡ filter other (take n xs)
  filter_same_until zero h = refl
  filter_same_until (suc n) h =
      let next : suc n ≡ n + 1 = omega arith in
      ap (λ k. filter test (take k xs)) next
      ∙ filter_more test xs n 0 (omega arith)
      ∙ (λ i. filter_same_until n (omega arith) i ++ cond (same n (omega arith) i) (get_or xs n 0 ∷ []) [])
      ∙ sym (filter_more other xs n 0 (omega arith))
      ∙ ap (λ k. filter other (take k xs)) (sym next)

  pub filter_same : filter test xs ≡ filter other xs
  filter_same =
      let all : ℕ = length xs in
      let whole : take all xs ≡ xs = take_all all xs (omega arith) in
      ap (filter test) (sym whole) ∙ filter_same_until all (omega arith) ∙ ap (filter other) whole
