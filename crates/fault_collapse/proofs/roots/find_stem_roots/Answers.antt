use Rattle.std.proofs.Common.{◌≡◌, ◌∙◌, ◌+◌, ◌-◌, ◌<◌, ℕ, true, false, List, length, get_or, sym, ap, arith, subst}
use Rattle.std.specs.Prelude.{Some, slice_get}
use Rattle.std.proofs.lemmas.Option.{slice_get-get_or, slice_get_within}
use Rattle.net_model.specs.declared.fault.Site.TheVariants.{Stem}
use Rattle.net_model.specs.declared.fault.Fault.{Fault}
use Rattle.net_model.specs.declared.fault.Fault.TheVariants.{Stuck}
use Rattle.net_model.specs.Circuit.{Circuit}
use Rattle.net_model.specs.FaultList.{faults, fault_count}
use Rattle.net_model.proofs.Orders.{order_only}
use Rattle.net_model.proofs.SetSoFar.{fits_from}
use Rattle.fault_collapse.proofs.RootSteps.{StemsFrom, next_within, no_stems, gate_more, all_stems, followed_whole}
use Rattle.fault_collapse.proofs.roots.find_stem_roots.Goals as goal

number_in : (circuit : Circuit) (listed : List Fault) (number : ℕ) (fault : Fault) → listed ≡ faults circuit → slice_get listed number ≡ Some fault → slice_get (faults circuit) number ≡ Some fault
number_in circuit listed number fault same there = ap (λ xs. slice_get xs number) (sym same) ∙ there

pub loop-i-init : goal.loop-i-init
loop-i-init c = no_stems c.args.circuit.now c.order-order.ensures.circuit c.args.successors.now c.requires.successors c.order-order.result.now c.order-order.ensures.order c.args.roots.now.items c.requires.own

pub stem_number-low-requires-clause-line : goal.stem_number-low-requires-clause-line
stem_number-low-requires-clause-line c = (order_only c.args.circuit.now (fits_from c.args.circuit.now c.order-order.ensures.circuit) c.order-order.result.now c.order-order.ensures.order (c.loop-i.i - 1) (omega arith)).1

pub follow-requires-clause-inside : goal.follow-requires-clause-inside
follow-requires-clause-inside c = omega (arith, slice_get_within c.args.faults.now c.stem_number-low.result _ c.stem_number-low.ensures, ap length c.requires.faults, c.loop-i.invariant.own.whole)

pub follow-requires-clause-known : goal.follow-requires-clause-known
follow-requires-clause-known c = omega (arith, slice_get_within c.args.faults.now c.stem_number-low.result _ c.stem_number-low.ensures, ap length c.requires.faults, c.requires.successors.whole)

pub follow-requires-clause-successor : goal.follow-requires-clause-successor
follow-requires-clause-successor c = λ next e.
    let within : c.stem_number-low.result < fault_count c.args.circuit.now = omega (arith, slice_get_within c.args.faults.now c.stem_number-low.result _ c.stem_number-low.ensures, ap length c.requires.faults) in
    omega (arith, next_within c.args.circuit.now c.order-order.ensures.circuit c.args.successors.now c.requires.successors c.stem_number-low.result next within e, c.loop-i.invariant.own.whole)

pub stem_number-high-requires-clause-line : goal.stem_number-high-requires-clause-line
stem_number-high-requires-clause-line c = (order_only c.args.circuit.now (fits_from c.args.circuit.now c.order-order.ensures.circuit) c.order-order.result.now c.order-order.ensures.order (c.loop-i.i - 1) (omega arith)).1

pub follow-requires-in-loop-i-clause-inside : goal.follow-requires-in-loop-i-clause-inside
follow-requires-in-loop-i-clause-inside c =
    omega (arith, slice_get_within c.args.faults.now c.stem_number-high.result _ c.stem_number-high.ensures, ap length c.requires.faults, c.loop-i.invariant.own.whole, followed_whole c.args.successors.now c.loop-i.roots.items c.follow.new.roots.items c.stem_number-low.result c.follow.ensures)

pub follow-requires-in-loop-i-clause-known : goal.follow-requires-in-loop-i-clause-known
follow-requires-in-loop-i-clause-known c = omega (arith, slice_get_within c.args.faults.now c.stem_number-high.result _ c.stem_number-high.ensures, ap length c.requires.faults, c.requires.successors.whole)

pub follow-requires-in-loop-i-clause-successor : goal.follow-requires-in-loop-i-clause-successor
follow-requires-in-loop-i-clause-successor c = λ next e.
    let within : c.stem_number-high.result < fault_count c.args.circuit.now = omega (arith, slice_get_within c.args.faults.now c.stem_number-high.result _ c.stem_number-high.ensures, ap length c.requires.faults) in
    omega (arith, next_within c.args.circuit.now c.order-order.ensures.circuit c.args.successors.now c.requires.successors c.stem_number-high.result next within e, c.loop-i.invariant.own.whole, followed_whole c.args.successors.now c.loop-i.roots.items c.follow.new.roots.items c.stem_number-low.result c.follow.ensures)

pub loop-i-preserved : goal.loop-i-preserved
loop-i-preserved c =
    let circuit = c.args.circuit.now in
    let order = c.order-order.result.now in
    let i = c.loop-i.i - 1 in
    let line = get_or order i 0 in
    let next : c.loop-i.i ≡ i + 1 = omega arith in
    let within = order_only circuit (fits_from circuit c.order-order.ensures.circuit) order c.order-order.ensures.order i (omega arith) in
    gate_more circuit c.order-order.ensures.circuit c.args.successors.now c.requires.successors order c.order-order.ensures.order i line c.stem_number-low.result c.stem_number-high.result c.loop-i.roots.items c.follow.new.roots.items c.follow-in-loop-i.new.roots.items
    (slice_get-get_or order i 0 (omega arith)) within.0
    (number_in circuit c.args.faults.now c.stem_number-low.result (Stuck (Stem line) false) c.requires.faults c.stem_number-low.ensures)
    (number_in circuit c.args.faults.now c.stem_number-high.result (Stuck (Stem line) true) c.requires.faults c.stem_number-high.ensures)
    (subst (λ n. StemsFrom circuit c.args.successors.now order n c.loop-i.roots.items) next c.loop-i.invariant)
    c.follow.ensures c.follow-in-loop-i.ensures

pub returns-clause-own : goal.returns-clause-own
returns-clause-own c = c.loop-i.invariant.own

pub returns-clause-stems : goal.returns-clause-stems
returns-clause-stems c =
    let none : c.loop-i.i ≡ 0 = omega arith in
    all_stems c.args.circuit.now c.order-order.ensures.circuit c.args.successors.now c.requires.successors c.order-order.result.now c.order-order.ensures.order c.loop-i.roots.items
    (subst (λ n. StemsFrom c.args.circuit.now c.args.successors.now c.order-order.result.now n c.loop-i.roots.items) none c.loop-i.invariant)
