use Rattle.std.proofs.Common.{◌≡◌, ◌∙◌, [], ℕ, length, get_or, ap, arith, rules}
use Rattle.std.specs.Prelude.{replicate}
use Rattle.std.proofs.lemmas.List.{length-replicate}
use Rattle.net_model.proofs.Orders.{order_only}
use Rattle.net_model.proofs.SetSoFar.{fits_from}
use Rattle.pair_sets.specs.PairSet.{free_pairs}
use Rattle.pair_sets.specs.CubeState.{set_at}
use Rattle.pair_sets.proofs.BaseLemmas.{base_line, base_none, base_more, base_all, free_everywhere}
use Rattle.pair_sets.proofs.base.base_pairs.Goals as goal

pub loop-line-init : goal.loop-line-init
loop-line-init c =
    let items : c.in_ok-sets.sets.items ≡ replicate c.lines.result c.free.result = search rules in
    let free : (line : ℕ) → set_at c.in_ok-sets.sets.items line ≡ free_pairs =
    λ line. ap (λ xs. set_at xs line) (items ∙ ap (replicate c.lines.result) c.free.ensures) ∙ free_everywhere c.lines.result line in
    base_none c.args.circuit.now c.order-line-items.ensures.circuit c.order-line-items.result.now c.order-line-items.ensures.order c.in_ok-sets.sets.items
    (ap length items ∙ length-replicate c.lines.result c.free.result ∙ c.lines.ensures.value) free

pub index_mut-requires : goal.index_mut-requires
index_mut-requires c =
    let gate = order_only c.args.circuit.now (fits_from c.args.circuit.now c.order-line-items.ensures.circuit) c.order-line-items.result.now c.order-line-items.ensures.order c.loop-line.line-index c.loop-line-test.true in
    omega (arith, c.loop-line.invariant.whole, c.loop-line.sets.ok.0, gate.1)

pub line_pairs-pairs-requires-clause-gate : goal.line_pairs-pairs-requires-clause-gate
line_pairs-pairs-requires-clause-gate c =
    (order_only c.args.circuit.now (fits_from c.args.circuit.now c.order-line-items.ensures.circuit) c.order-line-items.result.now c.order-line-items.ensures.order c.loop-line.line-index c.loop-line-test.true).0

pub line_pairs-pairs-requires-clause-line : goal.line_pairs-pairs-requires-clause-line
line_pairs-pairs-requires-clause-line c =
    (order_only c.args.circuit.now (fits_from c.args.circuit.now c.order-line-items.ensures.circuit) c.order-line-items.result.now c.order-line-items.ensures.order c.loop-line.line-index c.loop-line-test.true).1

pub loop-line-preserved : goal.loop-line-preserved
loop-line-preserved c =
    let sets = c.loop-line.sets.items in
    let line = get_or c.order-line-items.result.now c.loop-line.line-index 0 in
    base_more c.args.circuit.now c.order-line-items.ensures.circuit c.order-line-items.result.now c.order-line-items.ensures.order c.loop-line.line-index sets c.line_pairs-pairs.result c.loop-line-test.true
    (c.line_pairs-pairs.ensures [] ∙ ap (λ xs. base_line c.args.circuit.now xs line) c.as_slice.ensures.value) c.loop-line.invariant

pub returns : goal.returns
returns c = base_all c.args.circuit.now c.order-line-items.ensures.circuit c.order-line-items.result.now c.order-line-items.ensures.order c.loop-line.line-index c.loop-line.sets.items c.loop-line-test.false c.loop-line.invariant
