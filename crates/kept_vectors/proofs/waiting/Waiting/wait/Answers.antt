use Rattle.std.proofs.Common.{◌≡◌, ◌∙◌, ◌∷◌, ◌++◌, ◌+◌, ℕ, suc, List, [], drop, get_or, set, sym, ap, subst, arith}
use Rattle.std.proofs.lemmas.List.{get_or_default}
use Rattle.kept_vectors.specs.declared.waiting.Waiting.{Waiting}
use Rattle.std.proofs.Math.Seq.{drop-cons}
use Rattle.kept_vectors.specs.Waits.{AreWaiting}
use Rattle.kept_vectors.proofs.WaitLemmas.{waits_nowhere, waits_here}
use Rattle.kept_vectors.proofs.waiting.Waiting.wait.Goals as goal
use Rattle.kept_vectors.proofs.waiting.Waiting.wait.Goals.{then-lane-live+in_ok-push, else-lane-live}

pub loop-number-preserved : goal.loop-number-preserved
loop-number-preserved c =
    let good = c.args.good.now in
    let roots = c.args.differences.now.units.roots.now in
    let t = c.args.classes.now in
    let from = c.args.from in
    let live = c.args.live in
    let numbers = c.args.numbers.now in
    let k = c.loop-number.number-index in
    let number = get_or numbers k 0 in
    let old = c.loop-number.self.lanes.items in
    let lane = c.leaves_at-lane.result in
    let left : List ℕ = drop (k + 1) numbers in
    let first : drop k numbers ≡ number ∷ left = drop-cons numbers k 0 c.loop-number-test.true ∙ (let e : suc k ≡ k + 1 = omega arith in ap (λ (j : ℕ). number ∷ drop j numbers) e) in
    let so_far = subst (AreWaiting good roots t from live old) first c.loop-number.invariant in
    let low = c.leaves_at-lane.ensures.from in
    elim c.if-lane-live.branch [
      | then-lane-live+in_ok-push w ↦
          let less = w.if-lane-live.true in
          let value : w.index_mut.result.now ≡ get_or old lane [] = w.index_mut.ensures.value ∙ get_or_default old lane w.index_mut.result.now [] (omega (arith, less, c.requires.few, so_far.count)) in
          let pushed : w.push.new.self ≡ get_or old lane [] ++ number ∷ [] = w.in_ok-push.ensures ∙ ap (λ (ns : List ℕ). ns ++ number ∷ []) value in
          subst (λ (s : Waiting). AreWaiting good roots t from live s.lanes.items left) (sym w.self-is)
          (subst (λ (ns : List ℕ). AreWaiting good roots t from live (set old lane ns) left) (sym pushed)
          (waits_here good roots t from live old number left so_far lane low less c.requires.few (c.leaves_at-lane.ensures.first less)))
      | else-lane-live w ↦
          subst (λ (s : Waiting). AreWaiting good roots t from live s.lanes.items left) (sym w.self-is)
          (waits_nowhere good roots t from live old number left so_far lane low w.if-lane-live.false c.leaves_at-lane.ensures.before)
    ]
