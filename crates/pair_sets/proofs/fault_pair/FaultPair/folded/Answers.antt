use Rattle.std.proofs.Common.{◌≡◌, ◌∙◌, ◌+◌, ◌-◌, drop, length, sym, ap, arith}
use Rattle.std.proofs.lemmas.List.{drop_all}
use Rattle.net_model.specs.declared.operation.Operation.TheVariants.{Folded}
use Rattle.pair_sets.specs.PairSet.{operation_pairs}
use Rattle.pair_sets.specs.CubeState.{seen_pairs}
use Rattle.pair_sets.proofs.SeenLemmas.{length-seen, one_pin_more}
use Rattle.pair_sets.proofs.fault_pair.FaultPair.folded.Goals as goal

pub loop-k-init : goal.loop-k-init
loop-k-init c =
    let f = c.args.self.now.f in
    let g = c.args.self.now.g in
    let pins = c.args.pins.now in
    let seen = seen_pairs f g c.args.sets.now c.args.line pins in
    c.unit-pairs.ensures ∙ ap (operation_pairs (Folded c.args.fold)) (sym (drop_all (length pins) seen (omega (arith, length-seen f g c.args.sets.now c.args.line pins))))

pub loop-k-preserved : goal.loop-k-preserved
loop-k-preserved c =
    let f = c.args.self.now.f in
    let g = c.args.self.now.g in
    let pins = c.args.pins.now in
    let k = c.loop-k.k - 1 in
    let next : c.loop-k.k ≡ k + 1 = omega arith in
    c.step-pairs.ensures ∙ one_pin_more f g c.args.sets.now c.args.line c.args.fold pins k c.seen_pairs.result c.loop-k.pairs (omega arith) c.seen_pairs.ensures
    (c.loop-k.invariant ∙ ap (λ n. operation_pairs (Folded c.args.fold) (drop n (seen_pairs f g c.args.sets.now c.args.line pins))) next)
