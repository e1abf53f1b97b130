use Rattle.std.proofs.Common.{◌≡◌, ◌+◌, ◌∙◌, [], get_or, set, take, refl, sym, subst, ap, arith}
use Rattle.std.proofs.lemmas.List.{take-set-le, get_or-take}
use Rattle.net_model.specs.declared.fault.Fault.TheVariants.{Free}
use Rattle.net_model.specs.Gate.{gate_value}
use Rattle.net_model.specs.Fault.{stuck_pin}
use Rattle.net_model.specs.Answer.{bit_at, seen_bits}
use Rattle.net_model.proofs.Orders.{order_only}
use Rattle.net_model.proofs.SetSoFar.{SetSoFar, fits_from, set_none, set_more, set_all}
use Rattle.word_sim.specs.BlockFields.{column}
use Rattle.word_sim.proofs.Columns.{length-column, column_at, column-set}
use Rattle.word_sim.proofs.SeenLane.{seen_free}
use Rattle.word_sim.proofs.good_sim.evaluate.Goals as goal

pub loop-line-init : goal.loop-line-init
loop-line-init c =
    let circuit = c.args.circuit.now in
    let rows = c.args.rows.now in
    let sources = circuit.sources in
    record {
      kept = refl;
      set = λ lane h. set_none circuit Free (column (take sources rows) lane) c.order-line-items.result.now (column rows lane) (length-column rows lane ∙ c.requires)
          (λ line l. column_at rows lane line ∙ ap (λ row. bit_at row lane) (sym (get_or-take sources rows line [] l)) ∙ sym (column_at (take sources rows) lane line));
    }

pub gate-requires-clause-from : goal.gate-requires-clause-from
gate-requires-clause-from c =
    (order_only c.args.circuit.now (fits_from c.args.circuit.now c.order-line-items.ensures.circuit) c.order-line-items.result.now c.order-line-items.ensures.order c.loop-line.line-index c.loop-line-test.true).0

pub gate-requires-clause-below : goal.gate-requires-clause-below
gate-requires-clause-below c =
    (order_only c.args.circuit.now (fits_from c.args.circuit.now c.order-line-items.ensures.circuit) c.order-line-items.result.now c.order-line-items.ensures.order c.loop-line.line-index c.loop-line-test.true).1

pub bounds-rows-line : goal.bounds-rows-line
bounds-rows-line c =
    omega (arith, c.requires, c.loop-line.auto.rows, (order_only c.args.circuit.now (fits_from c.args.circuit.now c.order-line-items.ensures.circuit) c.order-line-items.result.now c.order-line-items.ensures.order c.loop-line.line-index c.loop-line-test.true).1)

pub loop-line-preserved : goal.loop-line-preserved
loop-line-preserved c =
    let circuit = c.args.circuit.now in
    let rows = c.loop-line.rows in
    let order = c.order-line-items.result.now in
    let i = c.loop-line.line-index in
    let line = get_or order i 0 in
    let gate = c.gate.result.now in
    let row = c.gate_lanes.result in
    let is = c.order-line-items.ensures.circuit in
    let range = order_only circuit (fits_from circuit is) order c.order-line-items.ensures.order i c.loop-line-test.true in
    record {
      kept = take-set-le circuit.sources rows line row range.0 ∙ c.loop-line.invariant.kept;
      set = λ lane h.
          let v = column (take circuit.sources c.args.rows.now) lane in
          let value = gate_value gate.kind (seen_bits (stuck_pin Free line) (column rows lane) gate.pins) in
          let gives : bit_at row lane ≡ value = c.gate_lanes.ensures lane h ∙ ap (gate_value gate.kind) (sym (seen_free rows lane line gate.pins)) in
          let more : SetSoFar circuit Free v order (i + 1) (set (column rows lane) line value) =
          set_more circuit Free v order i (column rows lane) line gate is c.order-line-items.ensures.order (c.loop-line.invariant.set lane h) c.loop-line-test.true refl c.gate.ensures.value in
          subst (SetSoFar circuit Free v order (i + 1)) (sym (column-set rows lane line row ∙ ap (λ b. set (column rows lane) line b) gives)) more;
    }

pub returns-clause-agrees : goal.returns-clause-agrees
returns-clause-agrees c = λ lane h.
    let circuit = c.args.circuit.now in
    (set_all circuit Free (column (take circuit.sources c.args.rows.now) lane) c.order-line-items.result.now c.loop-line.line-index (column c.loop-line.rows lane)
    c.order-line-items.ensures.circuit c.order-line-items.ensures.order c.loop-line-test.false (c.loop-line.invariant.set lane h)).0
