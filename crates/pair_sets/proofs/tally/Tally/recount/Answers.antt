use Rattle.std.proofs.Common.{◌≡◌, ◌≢◌, ◌<◌, ◌-◌, ◌∙◌, ℕ, List, length, get_or, take, drop, refl, sym, ap, arith, subst, inl, inr}
use Rattle.std.specs.Prelude.{All, Contains}
use Rattle.std.proofs.lemmas.Bool.{cases_eq, cases_lt}
use Rattle.std.proofs.lemmas.List.{get_or_default}
use Rattle.std.proofs.lemmas.List.Elements.{Contains-get_or}
use Rattle.pair_sets.specs.declared.trail.Change.{Change}
use Rattle.pair_sets.specs.Tally.{IsShownAt}
use Rattle.pair_sets.proofs.TallyLemmas.{all_from, tally_kept}
use Rattle.pair_sets.proofs.tally.Tally.recount.Goals as goal

pub look_again-requires-clause-positions : goal.look_again-requires-clause-positions
look_again-requires-clause-positions c = λ k d h.
    let at = get_or c.showing.result.now k d in
    c.wiring-wiring.ensures.showing.below c.change-item.result.line at (subst (λ us. Contains us at) c.showing.ensures (Contains-get_or c.showing.result.now k d h))

named_first : (changes : List Change) (i k : ℕ) (first d : Change) (line : ℕ) → k ≡ i → i < length changes → first ≡ get_or changes i first → first.line ≢ line → (get_or changes k d).line ≢ line
named_first changes i k first d line same inside is ne e =
    ne (ap (λ (x : Change). x.line) (is ∙ get_or_default changes i first d inside) ∙ ap (λ n. (get_or changes n d).line) (sym same) ∙ e)

pub loop-change-preserved : goal.loop-change-preserved
loop-change-preserved c =
    let positions = c.args.pair.now.circuit.now.positions in
    let all = c.deref.result.now in
    let changes = take (length all - c.args.start) (drop c.args.start all) in
    let i = c.loop-change.change-index in
    let line = c.change-item.result.line in
    let was = c.loop-change.invariant in
    let again = c.look_again.ensures in
    record {
      all = record { reached = again.all.reached ∙ was.all.reached; waiting = again.all.waiting ∙ was.all.waiting; whole = again.all.whole ∙ was.all.whole };
      others = λ at h unnamed. elim (cases_eq line (get_or positions at 0)) [
        | inl same ↦ again.here at (subst (λ us. Contains us at) (sym c.showing.ensures) (c.wiring-wiring.ensures.showing.all line at h (0, omega arith, sym same)))
        | inr ne ↦ again.kept at (was.others at h (λ k d from below. elim (cases_lt i k) [
          | inl later ↦ unnamed k d (omega (arith, later)) below
          | inr upto ↦ named_first changes i k c.change-item.result d (get_or positions at 0) (let same : k ≡ i = omega (arith, from, upto) in same) c.loop-change-test.true c.change-item.is ne
        ]))
      ];
    }

pub loop-change-init : goal.loop-change-init
loop-change-init c =
    let circuit = c.args.pair.now.circuit.now in
    let start = c.args.start in
    let all = c.deref.result.now in
    let are : take (length all - start) (drop start all) ≡ drop start c.args.trail.now.changes.items = all_from start all ∙ ap (drop start) c.deref.ensures.value in
    record {
      all = record { reached = refl; waiting = refl; whole = refl };
      others = λ at h unnamed.
          subst (λ xs. IsShownAt circuit c.args.pair.now.f c.args.pair.now.g xs c.args.self.now.shown at) (sym c.as_slice-sets.ensures.value)
          (c.requires.others at h (subst (All (λ (change : Change). change.line ≢ get_or circuit.positions at 0)) are (λ k d below. unnamed k d (omega arith) below)));
    }

pub returns-clause-shown : goal.returns-clause-shown
returns-clause-shown c = λ at h.
    subst (λ xs. IsShownAt c.args.pair.now.circuit.now c.args.pair.now.f c.args.pair.now.g xs c.loop-change.self.shown at) c.as_slice-sets.ensures.value
    (c.loop-change.invariant.others at h (λ k d from below. absurd (omega (arith, from, below, c.loop-change-test.false))))

pub look_again-requires-clause-width : goal.look_again-requires-clause-width
look_again-requires-clause-width c = ap length c.as_slice-sets.ensures.value ∙ c.requires.width

pub look_again-requires-clause-cone : goal.look_again-requires-clause-cone
look_again-requires-clause-cone c = c.requires.cone

pub look_again-requires-clause-tally : goal.look_again-requires-clause-tally
look_again-requires-clause-tally c = tally_kept c.args.pair.now.circuit.now c.args.pair.now.f c.args.pair.now.g c.args.self.now c.loop-change.self c.requires.tally c.loop-change.invariant.all

pub returns-clause-tally : goal.returns-clause-tally
returns-clause-tally c = tally_kept c.args.pair.now.circuit.now c.args.pair.now.f c.args.pair.now.g c.args.self.now c.loop-change.self c.requires.tally c.loop-change.invariant.all

pub showing-requires : goal.showing-requires
showing-requires c =
    let sets = c.args.trail.now.sets.items in
    let start = c.args.start in
    let all = c.deref.result.now in
    let changes = take (length all - start) (drop start all) in
    let are : changes ≡ drop start c.args.trail.now.changes.items = all_from start all ∙ ap (drop start) c.deref.ensures.value in
    let within = subst (All (λ (change : Change). change.line < length sets)) (sym are) c.requires.lines in
    let inside = subst (λ (change : Change). change.line < length sets) (sym c.change-item.is) (within c.loop-change.change-index c.change-item.result c.loop-change-test.true) in
    omega (arith, inside, c.requires.width, c.wiring-wiring.ensures.showing_whole)
