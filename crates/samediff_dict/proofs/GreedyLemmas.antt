-- The first step, pattern by pattern.
use Rattle.std.proofs.Common.{◌≡◌, ◌∙◌, ℕ, ◌+◌, ◌<◌, Bool, ltb, List, [], ◌∷◌, ◌++◌, length, get_or, take, fold, sym, ap, arith}
use Rattle.std.specs.List.{IsFirstBest}
use Rattle.std.proofs.lemmas.Bool.{lt-ltb, le-ltb}
use Rattle.std.proofs.lemmas.List.{get_or_default}
use Rattle.std.proofs.lemmas.List.MinMax.{IsStrictWeakOrder-flip, IsStrictWeakOrder-by_number, IsFirstBest-unique, IsFirstBest-from_best_of}
use Rattle.std.proofs.lemmas.List.Sums.{fold_more}
use Rattle.net_model.specs.ClassTable.{ClassTable, class_count}
use Rattle.samediff_dict.specs.declared.numbering.Candidates.{Candidates}
use Rattle.samediff_dict.specs.declared.partition.Partition.{Partition}
use Rattle.samediff_dict.specs.Chosen.{candidates, pairs_apart, first_best, with_next}
use Rattle.samediff_dict.specs.PlaceGroups.{IsFirstMost, gain_at}
use Rattle.samediff_dict.specs.Partition.{IsPartition, are_together, pairs_between}
use Rattle.samediff_dict.specs.Numbered.{AreCandidates, AlikeFrom, baselines_at}
use Rattle.samediff_dict.proofs.CandidateLemmas.{code_is, length-baselines, baselines_push}
use Rattle.samediff_dict.proofs.StepLemmas.{added_apart}

-- the first of the highest scores is at the first of the highest gains
pub first_best_is : (t : ClassTable) (score : List Bool → ℕ) (xs : List (List Bool)) (gain : ℕ → ℕ) (base best : ℕ) → IsFirstMost gain (length xs) best → ((k : ℕ) → k < length xs → score (get_or xs k []) ≡ base + gain k) → first_best t score xs ≡ get_or xs best []
first_best_is t score [] gain base best is same = absurd (let h = is.within in omega (arith, h))
first_best_is t score (x ∷ xs) gain base best is same =
    let beats : List Bool → List Bool → Bool = λ other most. ltb (score most) (score other) in
    let order = IsStrictWeakOrder-flip (λ a b. ltb (score a) (score b)) (IsStrictWeakOrder-by_number score) in
    let all = x ∷ xs in
    let at : (k : ℕ) (d : List Bool) → k < length all → score (get_or all k d) ≡ base + gain k = λ k d h. ap score (get_or_default all k d [] h) ∙ same k h in
    let found : IsFirstBest beats all (length all) best = (
      is.within,
      λ k d h. le-ltb (score (get_or all best d)) (score (get_or all k d)) (omega (arith, at k d h, at best d is.within, is.most k h)),
      λ k d h. lt-ltb (score (get_or all k d)) (score (get_or all best d)) (omega (arith, at k d (omega (arith, h, is.within)), at best d is.within, is.first k h)),
    ) in
    let w = IsFirstBest-from_best_of order x xs in
    let e : w.0 ≡ best = IsFirstBest-unique order all (length all) w.0 best x w.1 found in
    sym w.2 ∙ (ap (λ k. get_or all k x) e ∙ get_or_default all best x [] is.within)

pub greedy_more : (t : ClassTable) (rows : List (List (List Bool))) (chosen : List ℕ) (pattern : ℕ) → length chosen ≡ pattern → pattern < length rows → (p : Partition) (c : Candidates) (best : ℕ)
    → IsPartition (class_count t) (AlikeFrom t rows (baselines_at t rows chosen) 0 pattern) p → AreCandidates t (get_or rows pattern []) c
    → IsFirstMost (gain_at (are_together p) c.numbers) (length (candidates t (get_or rows pattern []))) best
    → baselines_at t rows chosen ≡ fold (with_next t rows) [] (take pattern rows) → baselines_at t rows (chosen ++ best ∷ []) ≡ fold (with_next t rows) [] (take (pattern + 1) rows)
greedy_more t rows chosen pattern long h p c best is are most so_far =
    let bs = baselines_at t rows chosen in
    let row = get_or rows pattern [] in
    let wide : length bs ≡ pattern = length-baselines t rows chosen ∙ long in
    let score : List Bool → ℕ = λ answer. pairs_apart t (take (length bs + 1) rows) (bs ++ answer ∷ []) in
    let first : first_best t score (candidates t row) ≡ get_or (candidates t row) best [] =
    first_best_is t score (candidates t row) (gain_at (are_together p) c.numbers) (pairs_between (class_count t) (are_together p)) best most
    (λ k hk. ap (λ n. pairs_apart t (take (n + 1) rows) (bs ++ get_or (candidates t row) k [] ∷ [])) wide
    ∙ added_apart t rows bs pattern wide h p c.numbers k (get_or (candidates t row) k []) is are.one_each (λ class hc. code_is t row c are class k hc hk)) in
    baselines_push t rows chosen best
    ∙ (ap (λ q. bs ++ get_or (candidates t (get_or rows q [])) best [] ∷ []) long
    ∙ (ap (λ answer. bs ++ answer ∷ []) (sym first)
    ∙ (ap (λ before. with_next t rows before row) so_far ∙ sym (fold_more (with_next t rows) [] rows pattern [] h))))
