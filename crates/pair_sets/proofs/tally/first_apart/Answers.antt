use Rattle.std.proofs.Common.{◌≡◌, ◌∙◌, ℕ, get_or, sym, ap}
use Rattle.std.specs.Prelude.{Bool, true, false, find}
use Rattle.std.proofs.lemmas.List.{drop_all}
use Rattle.pair_sets.specs.PairSet.{only_unequal}
use Rattle.pair_sets.specs.CubeState.{position_pairs}
use Rattle.pair_sets.proofs.MarkLemmas.{find_here, find_next}
use Rattle.pair_sets.proofs.tally.first_apart.Goals as goal

pub returns-then-only_unequal : goal.returns-then-only_unequal
returns-then-only_unequal c =
    let p : ℕ → Bool = λ at. only_unequal (position_pairs c.args.pair.now.circuit.now c.args.pair.now.f c.args.pair.now.g c.args.sets.now at) in
    let i = c.loop-at.at-index in
    let on : p (get_or c.args.reached.now i 0) ≡ true = ap only_unequal (sym c.position_pairs.ensures) ∙ sym c.only_unequal.ensures ∙ c.if-only_unequal.true in
    sym (c.loop-at.invariant ∙ find_here p c.args.reached.now i c.loop-at-test.true on)

pub loop-at-preserved : goal.loop-at-preserved
loop-at-preserved c =
    let p : ℕ → Bool = λ at. only_unequal (position_pairs c.args.pair.now.circuit.now c.args.pair.now.f c.args.pair.now.g c.args.sets.now at) in
    let i = c.loop-at.at-index in
    let off : p (get_or c.args.reached.now i 0) ≡ false = ap only_unequal (sym c.position_pairs.ensures) ∙ sym c.only_unequal.ensures ∙ c.if-only_unequal.false in
    c.loop-at.invariant ∙ find_next p c.args.reached.now i c.loop-at-test.true off

pub returns : goal.returns
returns c =
    let p : ℕ → Bool = λ at. only_unequal (position_pairs c.args.pair.now.circuit.now c.args.pair.now.f c.args.pair.now.g c.args.sets.now at) in
    sym (c.loop-at.invariant ∙ ap (find p) (drop_all c.loop-at.at-index c.args.reached.now c.loop-at-test.false))
