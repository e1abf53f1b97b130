-- The counts near the least, each with its number.
use Rattle.std.proofs.Common.{◌≡◌, ◌∙◌, ℕ, suc, ◌+◌, ◌-◌, ◌<◌, ◌≤◌, Bool, true, false, cond, List, [], ◌∷◌, ◌++◌, map, length, get_or, take, min, sym, ap, subst, arith}
use Rattle.std.specs.Prelude.{All, filter, nat_le}
use Rattle.std.specs.List.{enumerate_from, fold}
use Rattle.std.specs.List.Sorted.{IsPermutation, IsSorted}
use Rattle.std.proofs.lemmas.Bool.Decides.{nat_tests}
use Rattle.std.proofs.lemmas.List.{append-nil, map-append, length-take-le, take_more}
use Rattle.std.proofs.lemmas.List.Elements.{All-nil, All-cons, filter-append}
use Rattle.ranked_diag.specs.Ranked.{least, counted_numbers, near_least, rank_cmp, IsRanking}

-- ---- the least

low_fold : (x : ℕ) (xs : List ℕ) → (fold min x xs ≤ x) × All (λ y. fold min x xs ≤ y) xs
low_fold x [] = (omega arith, All-nil (λ y. x ≤ y))
low_fold x (y ∷ ys) =
    let rest = low_fold (min x y) ys in
    (omega (arith, rest.0), All-cons (λ z. fold min (min x y) ys ≤ z) y ys (omega (arith, rest.0)) rest.1)

-- the least is at most each
pub least-low : (counts : List ℕ) → All (λ count. least counts ≤ count) counts
least-low [] = λ k d h. absurd (omega (arith, h))
least-low (x ∷ xs) = let rest = low_fold x xs in All-cons (λ y. fold min x xs ≤ y) x xs rest.0 rest.1

-- ---- the counts near it, one after another

enumerate-push : (n : ℕ) (xs : List ℕ) (x : ℕ) → enumerate_from n (xs ++ x ∷ []) ≡ enumerate_from n xs ++ (n + length xs, x) ∷ []
enumerate-push n [] x = let at : n ≡ n + 0 = omega arith in ap (λ (k : ℕ). (k, x) ∷ []) at
enumerate-push n (y ∷ xs) x =
    let at : n + 1 + length xs ≡ n + suc (length xs) = omega arith in
    ap (λ (rest : List (ℕ × ℕ)). (n, y) ∷ rest) (enumerate-push (n + 1) xs x ∙ ap (λ (k : ℕ). enumerate_from (n + 1) xs ++ (k, x) ∷ []) at)

counted-push : (counts : List ℕ) (count : ℕ) → counted_numbers (counts ++ count ∷ []) ≡ counted_numbers counts ++ (count, length counts) ∷ []
counted-push counts count =
    ap (map (λ (x : ℕ × ℕ). (x.1, x.0))) (enumerate-push 0 counts count) ∙ map-append (λ (x : ℕ × ℕ). (x.1, x.0)) (enumerate_from 0 counts) ((0 + length counts, count) ∷ [])
    ∙ (let at : 0 + length counts ≡ length counts = omega arith in ap (λ (k : ℕ). counted_numbers counts ++ (count, k) ∷ []) at)

near_test : (count lowest within : ℕ) → lowest ≤ count → nat_le (count - lowest) within ≡ nat_le count (lowest + within)
near_test count lowest within low = grind (arith, nat_tests)

one_kept : (p : ℕ × ℕ → Bool) (old : List (ℕ × ℕ)) (rank : ℕ × ℕ) (b : Bool) → b ≡ p rank → cond b (old ++ rank ∷ []) old ≡ old ++ filter p (rank ∷ [])
one_kept p old rank true e = ap (λ (b : Bool). old ++ cond b (rank ∷ []) []) e
one_kept p old rank false e = sym (ap (λ (b : Bool). old ++ cond b (rank ∷ []) []) (sym e) ∙ simp append-nil)

pub near-more : (counts : List ℕ) (lowest within n count : ℕ) (old : List (ℕ × ℕ)) → n < length counts → count ≡ get_or counts n 0 → lowest ≤ count → old ≡ filter (λ rank. nat_le rank.0 (lowest + within)) (counted_numbers (take n counts))
    → cond (nat_le (count - lowest) within) (old ++ (count, n) ∷ []) old ≡ filter (λ rank. nat_le rank.0 (lowest + within)) (counted_numbers (take (n + 1) counts))
near-more counts lowest within n count old inside is low so_far =
    let test : ℕ × ℕ → Bool = λ rank. nat_le rank.0 (lowest + within) in
    let front : length (take n counts) ≡ n = length-take-le n counts (omega (arith, inside)) in
    let taken : counted_numbers (take (n + 1) counts) ≡ counted_numbers (take n counts) ++ (count, n) ∷ [] =
    ap counted_numbers (take_more counts n 0 inside ∙ ap (λ (x : ℕ). take n counts ++ x ∷ []) (sym is)) ∙ counted-push (take n counts) count ∙ ap (λ (k : ℕ). counted_numbers (take n counts) ++ (count, k) ∷ []) front in
    one_kept test old (count, n) (nat_le (count - lowest) within) (near_test count lowest within low)
    ∙ (ap (λ (xs : List (ℕ × ℕ)). xs ++ filter test ((count, n) ∷ [])) so_far ∙ sym (ap (filter test) taken ∙ filter-append test (counted_numbers (take n counts)) ((count, n) ∷ [])))

-- ---- all of them, in order

pub is-ranking : (counts : List ℕ) (within lowest : ℕ) (near ranks : List (ℕ × ℕ)) → lowest ≡ least counts → near ≡ filter (λ rank. nat_le rank.0 (lowest + within)) (counted_numbers counts) → IsPermutation near ranks → IsSorted rank_cmp ranks → IsRanking counts within ranks
unfolding near_least
is-ranking counts within lowest near ranks low is moved ascend = record {
  exactly = subst (λ (xs : List (ℕ × ℕ)). IsPermutation xs ranks) (is ∙ ap (λ (n : ℕ). filter (λ rank. nat_le rank.0 (n + within)) (counted_numbers counts)) low) moved;
  ascend = ascend;
}
