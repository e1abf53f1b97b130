use Rattle.std.proofs.Common.{◌<◌, ◌∙◌, ℕ, List, length, get_or, set, take, sym, ap, arith, subst, inl, inr}
use Rattle.std.specs.Prelude.{Contains}
use Rattle.std.proofs.lemmas.List.{take_more, take_all, length-set}
use Rattle.std.proofs.lemmas.List.Elements.{Contains-push_cases}
use Rattle.pair_sets.specs.PairSet.{PairSet}
use Rattle.pair_sets.specs.Tally.{IsShownAt}
use Rattle.pair_sets.proofs.TallyLemmas.{put_here, put_kept}
use Rattle.pair_sets.proofs.tally.Tally.look_again.Goals as goal

pub loop-at-preserved : goal.loop-at-preserved
loop-at-preserved c =
    let was = c.loop-at.invariant in
    let i = c.loop-at.at-index in
    let positions = c.args.positions.now in
    let at = get_or positions i 0 in
    let shown = c.loop-at.self.shown in
    let pairs = c.kept_pairs-pairs.result in
    let circuit = c.args.pair.now.circuit.now in
    let f = c.args.pair.now.f in
    let g = c.args.pair.now.g in
    let sets = c.args.sets.now in
    let inside : at < length shown = omega (arith, c.requires.positions i 0 c.loop-at-test.true, c.requires.tally.places.whole, was.all.whole) in
    let here = put_here circuit f g sets shown at pairs inside c.kept_pairs-pairs.ensures in
    let kept = put_kept circuit f g sets shown at pairs inside c.kept_pairs-pairs.ensures in
    let P : List PairSet → ℕ → Type 0 = IsShownAt circuit f g sets in
    record {
      all = record { reached = was.all.reached; waiting = was.all.waiting; whole = ap length c.put.ensures ∙ length-set shown at pairs ∙ was.all.whole };
      here = λ other has. subst (λ xs. P xs other) (sym c.put.ensures) (elim (Contains-push_cases (take i positions) at other (subst (λ xs. Contains xs other) (take_more positions i 0 c.loop-at-test.true) has)) [
        | inl earlier ↦ kept other (was.here other earlier)
        | inr same ↦ subst (P (set shown at pairs)) same here
      ]);
      kept = λ other before. subst (λ xs. P xs other) (sym c.put.ensures) (kept other (was.kept other before));
    }

pub returns-clause-here : goal.returns-clause-here
returns-clause-here c = λ at has. c.loop-at.invariant.here at (subst (λ xs. Contains xs at) (sym (take_all c.loop-at.at-index c.args.positions.now c.loop-at-test.false)) has)
