use Rattle.std.proofs.Common.{◌≡◌, ◌<◌, ◌≤◌, ◌∙◌, ◌∷◌, [], ◌++◌, ◌+◌, ◌-◌, ℕ, length, set, drop, take, sym, ap, arith}
use Rattle.std.proofs.lemmas.List.{length-set, length-take-le, drop-append-le, take_more}
use Rattle.pair_sets.specs.Trail.{undone}
use Rattle.pair_sets.proofs.TrailLemmas.{undone-append}
use Rattle.pair_sets.proofs.trail.PairTrail.restore.Goals as goal

pub loop-end-preserved : goal.loop-end-preserved
loop-end-preserved c =
    let start = c.args.start in
    let sets = c.loop-end.self.sets.items in
    let changes = c.loop-end.self.changes.items in
    let end = c.loop-end.end in
    let change = c.index-change.result.now in
    let rest = take (end - 1) changes in
    let inside : end - 1 < length changes = omega (arith, c.loop-end.invariant.below, c.loop-end-test.true) in
    let parts : take end changes ≡ rest ++ change ∷ [] =
    ap (λ n. take n changes) (ends end (omega (arith, c.loop-end-test.true))) ∙ take_more changes (end - 1) change inside ∙ ap (λ x. rest ++ x ∷ []) (sym c.index-change.ensures) in
    let left : start ≤ length rest = omega (arith, length-take-le (end - 1) changes (omega (arith, inside)), c.loop-end-test.true) in
    let whole : length (set sets change.line change.was) ≡ length sets = length-set sets change.line change.was in
    record {
      left = omega (arith, c.loop-end-test.true);
      below = omega (arith, inside);
      changes = c.loop-end.invariant.changes;
      whole = whole ∙ c.loop-end.invariant.whole;
      sets =
          sym (undone-append (drop start rest) (change ∷ []) sets)
          ∙ ap (λ xs. undone xs sets) (sym (drop-append-le start rest (change ∷ []) left) ∙ ap (drop start) (sym parts))
          ∙ c.loop-end.invariant.sets;
    }
  where
    ends : (n : ℕ) → 0 < n → n ≡ n - 1 + 1
    ends n h = omega (arith, h)
