use Rattle.std.proofs.Common.{◌≡◌, ◌∙◌, ℕ, ◌+◌, ◌<◌, ◌≤◌, List, length, set, get_or, sym, ap, subst, arith}
use Rattle.std.specs.Prelude.{replicate}
use Rattle.net_model.specs.Circuit.{Circuit, IsCircuit, line_count, pins_of}
use Rattle.net_model.specs.Order.{IsOrder}
use Rattle.net_model.proofs.Orders.{order_only}
use Rattle.net_model.proofs.SetSoFar.{fits_from}
use Rattle.distinguish_search.specs.Levels.{highest_level}
use Rattle.distinguish_search.proofs.LevelLemmas.{LevelsSoFar, levels_none, level_fits, levels_more, levels_all}
use Rattle.distinguish_search.proofs.levels.Levels.new.Goals as goal

pub loop-line-init : goal.loop-line-init
loop-line-init c =
    let circuit = c.args.circuit.now in
    let order = c.order-line-items.result.now in
    subst (LevelsSoFar circuit order 0) (sym (c.in_ok-levels.ensures.items_if_clones_equal (λ y e. e) ∙ ap (λ n. replicate n 0) c.lines.ensures.value)) (levels_none circuit order)

-- a line of an order is one that a gate drives
gate_line : (c : Circuit) (order : List ℕ) (i : ℕ) → IsCircuit c → IsOrder c order → i < length order → (c.sources ≤ get_or order i 0) × (get_or order i 0 < line_count c)
gate_line c order i w is h = order_only c (fits_from c w) order is i h

pub gate-requires-clause-from : goal.gate-requires-clause-from
gate-requires-clause-from c = (gate_line c.args.circuit.now c.order-line-items.result.now c.loop-line.line-index c.order-line-items.ensures.circuit c.order-line-items.ensures.order c.loop-line-test.true).0

pub gate-requires-clause-below : goal.gate-requires-clause-below
gate-requires-clause-below c = (gate_line c.args.circuit.now c.order-line-items.result.now c.loop-line.line-index c.order-line-items.ensures.circuit c.order-line-items.ensures.order c.loop-line-test.true).1

-- the highest level is that of the gate's pins
highest_is : (c : Circuit) (line : ℕ) (levels seen pins own : List ℕ) (highest : ℕ) → highest ≡ highest_level seen pins → seen ≡ levels → pins ≡ own → pins_of c line ≡ own → highest ≡ highest_level levels (pins_of c line)
highest_is c line levels seen pins own highest e same read gate = e ∙ ap (λ xs. highest_level xs pins) same ∙ ap (highest_level levels) (read ∙ sym gate)

pub overflow_add-highest_level : goal.overflow_add-highest_level
overflow_add-highest_level c =
    let circuit = c.args.circuit.now in
    let order = c.order-line-items.result.now in
    let i = c.loop-line.line-index in
    let e = highest_is circuit (get_or order i 0) c.loop-line.levels.items c.as_slice.result.now c.as_slice-pins.result.now c.gate.result.now.pins c.highest_level.result c.highest_level.ensures c.as_slice.ensures.value c.as_slice-pins.ensures c.gate.ensures.pins in
    let fits = level_fits circuit c.order-line-items.ensures.circuit order c.order-line-items.ensures.order i c.loop-line.levels.items c.loop-line.invariant c.loop-line-test.true in
    omega (arith, e, fits)

pub index_mut-requires : goal.index_mut-requires
index_mut-requires c =
    let line = gate_line c.args.circuit.now c.order-line-items.result.now c.loop-line.line-index c.order-line-items.ensures.circuit c.order-line-items.ensures.order c.loop-line-test.true in
    omega (arith, line.1, c.loop-line.invariant.whole)

pub loop-line-preserved : goal.loop-line-preserved
loop-line-preserved c =
    let circuit = c.args.circuit.now in
    let order = c.order-line-items.result.now in
    let i = c.loop-line.line-index in
    let levels = c.loop-line.levels.items in
    let e = highest_is circuit (get_or order i 0) levels c.as_slice.result.now c.as_slice-pins.result.now c.gate.result.now.pins c.highest_level.result c.highest_level.ensures c.as_slice.ensures.value c.as_slice-pins.ensures c.gate.ensures.pins in
    subst (λ (n : ℕ). LevelsSoFar circuit order (i + 1) (set levels (get_or order i 0) (n + 1))) (sym e)
    (levels_more circuit c.order-line-items.ensures.circuit order c.order-line-items.ensures.order i levels c.loop-line.invariant c.loop-line-test.true)

pub returns : goal.returns
returns c = levels_all c.args.circuit.now c.order-line-items.ensures.circuit c.order-line-items.result.now c.order-line-items.ensures.order c.loop-line.line-index c.loop-line.levels.items c.loop-line.invariant c.loop-line-test.false
