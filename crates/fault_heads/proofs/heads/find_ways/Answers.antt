use Rattle.std.proofs.Common.{◌≡◌, ◌∙◌, ◌<◌, ◌≤◌, ◌+◌, ◌-◌, get_or, sym, ap, subst, arith, inl, inr}
use Rattle.std.specs.Prelude.{None}
use Rattle.std.proofs.lemmas.Bool.{cases_eq}
use Rattle.std.proofs.lemmas.Option.{slice_get-get_or}
use Rattle.net_model.specs.Circuit.{Circuit, IsCircuit}
use Rattle.net_model.specs.Order.{IsOrder}
use Rattle.net_model.proofs.Orders.{order_only}
use Rattle.net_model.proofs.SetSoFar.{fits_from}
use Rattle.fault_heads.specs.HeadsFields.{IsDestination}
use Rattle.fault_heads.proofs.WayLemmas.{AreWaysSoFar, FromPlace, GatesAndSources, no_ways, one_more, destination_is_gate, destination_later, gates_first, all_ways}
use Rattle.fault_heads.proofs.heads.find_ways.Goals as goal

pub loop-i-init : goal.loop-i-init
loop-i-init c = no_ways c.args.good.now c.order-order.result.now c.args.ways.now c.requires.whole

pub bounds-destinations-line : goal.bounds-destinations-line
bounds-destinations-line c =
    let w = subst IsCircuit c.circuit.ensures c.order-order.ensures.circuit in
    let is = subst (λ n. IsOrder n c.order-order.result.now) c.circuit.ensures c.order-order.ensures.order in
    omega (arith, (order_only c.args.good.now.circuit (fits_from c.args.good.now.circuit w) c.order-order.result.now is (c.loop-i.i - 1) (omega arith)).1, c.requires.destinations.whole)

pub way-requires-clause-line : goal.way-requires-clause-line
way-requires-clause-line c =
    let w = subst IsCircuit c.circuit.ensures c.order-order.ensures.circuit in
    let is = subst (λ n. IsOrder n c.order-order.result.now) c.circuit.ensures c.order-order.ensures.order in
    (order_only c.args.good.now.circuit (fits_from c.args.good.now.circuit w) c.order-order.result.now is (c.loop-i.i - 1) (omega arith)).1

pub way-requires-clause-destination : goal.way-requires-clause-destination
way-requires-clause-destination c =
    let w = subst IsCircuit c.circuit.ensures c.order-order.ensures.circuit in
    let is = subst (λ n. IsOrder n c.order-order.result.now) c.circuit.ensures c.order-order.ensures.order in
    let line = get_or c.order-order.result.now (c.loop-i.i - 1) 0 in
    let inside = order_only c.args.good.now.circuit (fits_from c.args.good.now.circuit w) c.order-order.result.now is (c.loop-i.i - 1) (omega arith) in
    c.requires.destinations.each line (get_or c.args.destinations.now line None) (slice_get-get_or c.args.destinations.now line None (omega (arith, inside.1, c.requires.destinations.whole)))

pub way-requires-clause-onward : goal.way-requires-clause-onward
way-requires-clause-onward c = λ at next found there.
    let good = c.args.good.now in
    let w = subst IsCircuit c.circuit.ensures c.order-order.ensures.circuit in
    let order = c.order-order.result.now in
    let is = subst (λ n. IsOrder n order) c.circuit.ensures c.order-order.ensures.order in
    let i = c.loop-i.i - 1 in
    let line = get_or order i 0 in
    let inside = order_only good.circuit (fits_from good.circuit w) order is i (omega arith) in
    let at_line = c.requires.destinations.each line (get_or c.args.destinations.now line None) (slice_get-get_or c.args.destinations.now line None (omega (arith, inside.1, c.requires.destinations.whole))) in
    let only = subst (IsDestination good.circuit line) found at_line in
    let next_place : i + 1 ≡ c.loop-i.i = omega arith in
    let later = subst (λ n. FromPlace order n at.gate) next_place (destination_later good w order is i at.gate at.pin (omega arith) only) in
    c.loop-i.invariant.each at.gate later next there

pub bounds-ways-line : goal.bounds-ways-line
bounds-ways-line c =
    let w = subst IsCircuit c.circuit.ensures c.order-order.ensures.circuit in
    let is = subst (λ n. IsOrder n c.order-order.result.now) c.circuit.ensures c.order-order.ensures.order in
    omega (arith, (order_only c.args.good.now.circuit (fits_from c.args.good.now.circuit w) c.order-order.result.now is (c.loop-i.i - 1) (omega arith)).1, c.loop-i.invariant.whole)

pub loop-i-preserved : goal.loop-i-preserved
loop-i-preserved c =
    let good = c.args.good.now in
    let w = subst IsCircuit c.circuit.ensures c.order-order.ensures.circuit in
    let order = c.order-order.result.now in
    let is = subst (λ n. IsOrder n order) c.circuit.ensures c.order-order.ensures.order in
    let i = c.loop-i.i - 1 in
    let inside = order_only good.circuit (fits_from good.circuit w) order is i (omega arith) in
    one_more good (FromPlace order c.loop-i.i) (FromPlace order i) c.loop-i.ways (get_or order i 0) c.way.result inside.1 c.loop-i.invariant c.way.ensures
    (λ l m. elim (cases_eq m.0 i) [
      | inl same ↦ inl (sym m.3 ∙ ap (λ k. get_or order k 0) same)
      | inr apart ↦ inr (m.0, omega (arith, m.1, apart), m.2, m.3)
    ])

pub loop-line-init : goal.loop-line-init
loop-line-init c =
    let w = subst IsCircuit c.circuit.ensures c.order-order.ensures.circuit in
    let order = c.order-order.result.now in
    let is = subst (λ n. IsOrder n order) c.circuit.ensures c.order-order.ensures.order in
    let none : c.loop-i.i ≡ 0 = omega arith in
    gates_first c.args.good.now w order is c.loop-i.ways (subst (λ n. AreWaysSoFar c.args.good.now (FromPlace order n) c.loop-i.ways) none c.loop-i.invariant)

pub way-requires-in-loop-line-clause-destination : goal.way-requires-in-loop-line-clause-destination
way-requires-in-loop-line-clause-destination c =
    let line = c.loop-line.line in
    let source : line < c.args.good.now.circuit.sources = omega (arith, c.loop-line-test.true, c.sources-line-end.ensures.value, ap (λ (n : Circuit). n.sources) c.circuit-2.ensures) in
    c.requires.destinations.each line (get_or c.args.destinations.now line None) (slice_get-get_or c.args.destinations.now line None (omega (arith, source, c.requires.destinations.whole)))

pub way-requires-in-loop-line-clause-onward : goal.way-requires-in-loop-line-clause-onward
way-requires-in-loop-line-clause-onward c = λ at next found there.
    let good = c.args.good.now in
    let line = c.loop-line.line in
    let source : line < good.circuit.sources = omega (arith, c.loop-line-test.true, c.sources-line-end.ensures.value, ap (λ (n : Circuit). n.sources) c.circuit-2.ensures) in
    let at_line = c.requires.destinations.each line (get_or c.args.destinations.now line None) (slice_get-get_or c.args.destinations.now line None (omega (arith, source, c.requires.destinations.whole))) in
    let only = subst (IsDestination good.circuit line) found at_line in
    c.loop-line.invariant.each at.gate (inl (destination_is_gate good.circuit line at.gate at.pin only).0) next there

pub loop-line-preserved : goal.loop-line-preserved
loop-line-preserved c =
    let good = c.args.good.now in
    let line = c.loop-line.line in
    let source : line < good.circuit.sources = omega (arith, c.loop-line-test.true, c.sources-line-end.ensures.value, ap (λ (n : Circuit). n.sources) c.circuit-2.ensures) in
    one_more good (GatesAndSources good.circuit line) (GatesAndSources good.circuit (line + 1)) c.loop-line.ways line c.way-in-loop-line.result (omega (arith, source)) c.loop-line.invariant c.way-in-loop-line.ensures
    (λ l m. elim m [
      | inl gate ↦ inr (inl gate)
      | inr below ↦ elim (cases_eq l line) [
        | inl same ↦ inl same
        | inr apart ↦ inr (inr (omega (arith, below, apart)))
      ]
    ])

pub returns : goal.returns
returns c =
    let all : c.args.good.now.circuit.sources ≤ c.loop-line.line = omega (arith, c.loop-line-test.false, c.sources-line-end.ensures.value, ap (λ (n : Circuit). n.sources) c.circuit-2.ensures) in
    all_ways c.args.good.now c.loop-line.ways c.loop-line.line all c.loop-line.invariant
