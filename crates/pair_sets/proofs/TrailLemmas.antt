-- Changes of pairs, and how they are undone.
use Rattle.std.proofs.Common.{◌≡◌, ℕ, zero, suc, ◌*◌, ◌<◌, ◌≤◌, List, [], ◌∷◌, ◌++◌, length, set, refl, sym, ◌∙◌, ap, arith, subst, append_assoc}
use Rattle.std.specs.Prelude.{All, sum_by, vec_capacity}
use Rattle.std.proofs.lemmas.List.{set-set, set-get_or, length-set}
use Rattle.std.proofs.lemmas.List.Elements.{All-append}
use Rattle.std.proofs.lemmas.List.Sums.{sum_by-cons}
use Rattle.pair_sets.specs.PairSet.{PairSet}
use Rattle.pair_sets.specs.declared.trail.Change.{Change}
use Rattle.pair_sets.specs.declared.trail.PairTrail.{PairTrail}
use Rattle.pair_sets.specs.CubeState.{set_at}
use Rattle.pair_sets.specs.Trail.{change_with, pairs_in_set, undone, IsLonger}
use Rattle.pair_sets.proofs.GateLemmas.{four_at_most}

pub undone-append : (first second : List Change) (sets : List PairSet) → undone (first ++ second) sets ≡ undone first (undone second sets)
undone-append [] second sets = refl
undone-append (change ∷ first) second sets = ap (λ s. set s change.line change.was) (undone-append first second sets)

pub length-undone : (changes : List Change) (sets : List PairSet) → length (undone changes sets) ≡ length sets
length-undone [] sets = refl
length-undone (change ∷ changes) sets = length-set (undone changes sets) change.line change.was ∙ length-undone changes sets

-- there are at most four pairs for each line
pub few_pairs : (sets : List PairSet) → sum_by pairs_in_set sets ≤ 4 * length sets
few_pairs [] = omega arith
few_pairs (s ∷ sets) = omega (arith, sum_by-cons pairs_in_set s sets, four_at_most s, few_pairs sets)

pub longer_one : (old new : PairTrail) (line : ℕ) (pairs : PairSet) → line < length old.sets.items → new.sets.items ≡ set old.sets.items line pairs
    → new.changes.items ≡ old.changes.items ++ change_with line (set_at old.sets.items line) ∷ [] → vec_capacity new.changes ≡ vec_capacity old.changes → IsLonger old new
longer_one old new line pairs inside sets changes capacity =
    let was = set_at old.sets.items line in
    let whole : length new.sets.items ≡ length old.sets.items = ap length sets ∙ length-set old.sets.items line pairs in
    record {
      added = change_with line was ∷ [];
      extends = changes;
      before = ap (λ s. set s line was) sets ∙ set-set old.sets.items line pairs was ∙ set-get_or old.sets.items line _;
      whole = whole;
      within = within_one (length new.sets.items) (change_with line was) (omega arith);
      capacity = capacity;
    }
  where
    within_one : (n : ℕ) (change : Change) → change.line < n → All (λ (x : Change). x.line < n) (change ∷ [])
    within_one n change h zero d k = h
    within_one n change h (suc i) d k = absurd (omega arith)

pub longer_more : (first second third : PairTrail) → IsLonger first second → IsLonger second third → IsLonger first third
longer_more first second third a b = record {
  added = a.added ++ b.added;
  extends = b.extends ∙ ap (λ xs. xs ++ b.added) a.extends ∙ append_assoc first.changes.items a.added b.added;
  before = undone-append a.added b.added third.sets.items ∙ ap (undone a.added) b.before ∙ a.before;
  whole = b.whole ∙ a.whole;
  within = All-append (λ (change : Change). change.line < length third.sets.items) a.added b.added (subst (λ n. All (λ (change : Change). change.line < n) a.added) (sym b.whole) a.within) b.within;
  capacity = b.capacity ∙ a.capacity;
}
