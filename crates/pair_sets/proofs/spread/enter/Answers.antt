use Rattle.std.proofs.Common.{◌≡◌, ◌∙◌, [], set, true, sym, ap, subst, arith}
use Rattle.pair_sets.specs.CubeState.{line_pairs}
use Rattle.pair_sets.specs.Spread.{IsSpread}
use Rattle.pair_sets.proofs.EventLemmas.{readers_within, readers_woken}
use Rattle.pair_sets.proofs.SpreadLemmas.{spread_more}
use Rattle.pair_sets.proofs.spread.enter.Goals as goal

pub wake-requires : goal.wake-requires
wake-requires c = λ k d h. omega (arith, readers_within c.args.pair.now.circuit.now c.args.wiring.now c.requires.wiring c.args.line c.readers.result.now c.readers.ensures k d h, c.requires.width.queue)

pub returns-clause-woken : goal.returns-clause-woken
returns-clause-woken c =
    readers_woken c.args.pair.now.circuit.now c.args.wiring.now c.requires.wiring c.args.line c.readers.result.now c.readers.ensures c.args.queue.now c.wake.new.self c.wake.ensures.kept c.wake.ensures.only c.wake.ensures.here

pub returns-clause-spread : goal.returns-clause-spread
returns-clause-spread c = λ but was.
    let circuit = c.args.pair.now.circuit.now in
    let f = c.args.pair.now.f in
    let g = c.args.pair.now.g in
    let line = c.args.line in
    let sets = c.args.sets.now.items in
    let marks = c.args.cone.now in
    let pairs : c.free_line_pairs-pairs.result ≡ line_pairs circuit f g [] sets line = c.free_line_pairs-pairs.ensures ∙ ap (λ xs. line_pairs circuit f g [] xs line) c.as_slice.ensures.value in
    let more = spread_more circuit c.requires.wiring.circuit f g c.args.wiring.now c.requires.wiring c.args.queue.now marks sets line but was c.wake.new.self
    (omega (arith, c.requires.width.sets, c.requires.line)) (omega (arith, c.requires.width.marks, c.requires.line)) c.requires.split (returns-clause-woken c) in
    subst (λ ms. IsSpread circuit f g c.args.wiring.now.order but c.wake.new.self ms (set sets line c.free_line_pairs-pairs.result)) (sym c.mark.ensures)
    (subst (λ s. IsSpread circuit f g c.args.wiring.now.order but c.wake.new.self (set marks line true) (set sets line s)) (sym pairs) more)
