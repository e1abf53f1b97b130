-- The numbers below one that pass a test, listed, and the clauses of the first of some numbers.
use Rattle.std.proofs.Common.{◌≡◌, ◌∙◌, inl, inr, ℕ, zero, suc, ◌+◌, ◌<◌, Bool, true, false, List, [], ◌∷◌, ◌++◌, length, get_or, take, drop, refl, sym, ap, arith}
use Rattle.std.specs.Prelude.{filter, flat_map, cond, sum_by, if◌then◌else◌}
use Rattle.std.specs.List.{range_with_len}
use Rattle.std.proofs.Math.Seq.{take-append_seam, get_or-append_seam}
use Rattle.std.proofs.lemmas.Bool.{cases_lt}
use Rattle.std.proofs.lemmas.Grind.{flat_map-append}
use Rattle.std.proofs.lemmas.List.{append-nil, length-append, take_more, take-append-le, take-append-drop, get_or_append_left}
use Rattle.std.proofs.lemmas.List.Elements.{filter-append}
use Rattle.std.proofs.lemmas.List.Sums.{sum_by-cons, sum_by_push}
use Rattle.net_model.proofs.Orders.{range_with_len_more}
use Rattle.clause_pool.specs.Clauses.{Clause}

module _ (test : ℕ → Bool) where
  -- the numbers below one that pass
  abbrev pub passing_below : ℕ → List ℕ
  passing_below n = filter test (range_with_len 0 n)

  passing_more : (n : ℕ) (b : Bool) → test n ≡ b → passing_below (n + 1) ≡ passing_below n ++ cond b (n ∷ []) []
  passing_more n b e =
      ap (filter test) (range_with_len_more 0 (n + 1) n n refl (omega arith))
      ∙ (filter-append test (range_with_len 0 n) (n ∷ [])
      ∙ ap (λ t. passing_below n ++ cond t (n ∷ []) []) e)

  pub passing_yes : (n : ℕ) → test n ≡ true → passing_below (n + 1) ≡ passing_below n ++ n ∷ []
  passing_yes n e = passing_more n true e

  pub passing_no : (n : ℕ) → test n ≡ false → passing_below (n + 1) ≡ passing_below n
  passing_no n e = passing_more n false e ∙ append-nil (passing_below n)

  -- the numbers listed before one are those below it
  pub listed_before : (n k d : ℕ) → k < length (passing_below n) → take k (passing_below n) ≡ passing_below (get_or (passing_below n) k d)
  listed_before zero k d inside = absurd (omega (arith, inside))
  listed_before (suc n) k d inside = by (test n) refl (listed_before n k d)
    where
      more : suc n ≡ n + 1
      more = omega arith

      through : {xs : List ℕ} → passing_below (suc n) ≡ xs → take k xs ≡ passing_below (get_or xs k d) → take k (passing_below (suc n)) ≡ passing_below (get_or (passing_below (suc n)) k d)
      through same is = ap (take k) same ∙ (is ∙ ap (λ xs. passing_below (get_or xs k d)) (sym same))

      by : (b : Bool) → test n ≡ b → (k < length (passing_below n) → take k (passing_below n) ≡ passing_below (get_or (passing_below n) k d)) → take k (passing_below (suc n)) ≡ passing_below (get_or (passing_below (suc n)) k d)
      by false fails earlier =
          let same : passing_below (suc n) ≡ passing_below n = ap passing_below more ∙ passing_no n fails in
          through same (earlier (omega (arith, ap length same, inside)))
      by true passes earlier =
          let same : passing_below (suc n) ≡ passing_below n ++ n ∷ [] = ap passing_below more ∙ passing_yes n passes in
          let many : length (passing_below (suc n)) ≡ length (passing_below n) + 1 = ap length same ∙ length-append (passing_below n) (n ∷ []) in
          through same
          (elim (cases_lt k (length (passing_below n))) [
            | inl below ↦ take-append-le k (passing_below n) (n ∷ []) (omega arith) ∙ (earlier below ∙ ap passing_below (sym (get_or_append_left (passing_below n) (n ∷ []) d k below)))
            | inr above ↦
                let here : k ≡ length (passing_below n) = omega (arith, many, inside) in
                ap (λ i. take i (passing_below n ++ n ∷ [])) here
                ∙ (take-append_seam (passing_below n) (n ∷ [])
                ∙ ap passing_below (sym (ap (λ i. get_or (passing_below n ++ n ∷ []) i d) here ∙ get_or-append_seam (passing_below n) n [] d)))
          ])

  -- a sum over the numbers that pass is the sum over all, if those that fail add nothing
  pub sum_of_passing : (h : ℕ → ℕ) → ((x : ℕ) → test x ≡ false → h x ≡ 0) → (xs : List ℕ) → sum_by h (filter test xs) ≡ sum_by h xs
  sum_of_passing h none [] = refl
  sum_of_passing h none (x ∷ xs) = by (test x) refl (sum_of_passing h none xs)
    where
      by : (b : Bool) → test x ≡ b → sum_by h (filter test xs) ≡ sum_by h xs → sum_by h (if b then x ∷ filter test xs else filter test xs) ≡ sum_by h (x ∷ xs)
      by true e rest = omega (arith, sum_by-cons h x (filter test xs), sum_by-cons h x xs, rest)
      by false e rest = omega (arith, sum_by-cons h x xs, rest, none x e)

-- ---- the first of some numbers, and one more

module _ (xs : List ℕ) (i : ℕ) (inside : i < length xs) where
  pub sum_taken : (h : ℕ → ℕ) → sum_by h (take (i + 1) xs) ≡ sum_by h (take i xs) + h (get_or xs i 0)
  sum_taken h = ap (sum_by h) (take_more xs i 0 inside) ∙ sum_by_push h (take i xs) (get_or xs i 0)

  module _ (clauses : ℕ → List Clause) where
    pub clauses_more : flat_map clauses (take (i + 1) xs) ≡ flat_map clauses (take i xs) ++ clauses (get_or xs i 0)
    clauses_more =
        ap (flat_map clauses) (take_more xs i 0 inside)
        ∙ (flat_map-append clauses (take i xs) (get_or xs i 0 ∷ [])
        ∙ ap (λ ys. flat_map clauses (take i xs) ++ ys) (append-nil (clauses (get_or xs i 0))))

    -- with the clauses of the others after them they are all clauses
    pub clauses_rest : flat_map clauses xs ≡ (flat_map clauses (take i xs) ++ clauses (get_or xs i 0)) ++ flat_map clauses (drop (i + 1) xs)
    clauses_rest =
        ap (flat_map clauses) (sym (take-append-drop (i + 1) xs))
        ∙ (flat_map-append clauses (take (i + 1) xs) (drop (i + 1) xs)
        ∙ ap (λ ys. ys ++ flat_map clauses (drop (i + 1) xs)) clauses_more)
