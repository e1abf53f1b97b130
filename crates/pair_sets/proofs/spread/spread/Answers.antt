use Rattle.std.proofs.Common.{◌<◌, ◌+◌, ◌-◌, ◌∙◌, length, get_or, ap, arith}
use Rattle.std.specs.Prelude.{false, ◌||◌}
use Rattle.net_model.specs.Scope.{is_split}
use Rattle.fault_list.specs.Scope.{is_first_changed}
use Rattle.event_queue.specs.Pending.{IsLowest}
use Rattle.pair_sets.proofs.EventLemmas.{ordered_line, none_before, waiting_line}
use Rattle.net_model.proofs.Places.{few_places}
use Rattle.pair_sets.proofs.SpreadLemmas.{none_marked, split_first, split_second, spread_none, spread_taken, spread_marks, spread_sets}
use Rattle.pair_sets.proofs.spread.spread.Goals as goal

pub begin-requires-clause-split : goal.begin-requires-clause-split
begin-requires-clause-split c = split_first c.args.pair.now.circuit.now c.args.pair.now.f c.args.pair.now.g

pub begin-requires-2-clause-split : goal.begin-requires-2-clause-split
begin-requires-2-clause-split c = split_second c.args.pair.now.circuit.now c.args.pair.now.f c.args.pair.now.g

pub begin-requires-clause-width : goal.begin-requires-clause-width
begin-requires-clause-width c = record { queue = c.requires.queue; marks = c.requires.unmarked.whole; sets = c.requires.free.whole }

pub loop-place-init : goal.loop-place-init
loop-place-init c =
    let circuit = c.args.pair.now.circuit.now in
    let g = c.args.pair.now.g in
    record {
      from = omega arith;
      width = c.begin-2.ensures.width;
      low = λ place h. absurd (omega arith);
      spread = c.begin-2.ensures.spread (λ l. false)
          (c.begin.ensures.spread (λ l. is_first_changed g l || false)
          (spread_none circuit c.requires.wiring.circuit c.args.pair.now.f g c.args.wiring.now c.requires.wiring c.args.queue.now c.args.cone.now c.args.sets.now.items c.requires.free c.requires.none
          (none_marked circuit c.args.cone.now c.requires.unmarked)));
    }

pub enter-requires-clause-line : goal.enter-requires-clause-line
enter-requires-clause-line c =
    (waiting_line c.args.pair.now.circuit.now c.args.wiring.now c.requires.wiring c.order-order.result.now c.order-order.ensures c.loop-place.queue c.loop-place.invariant.width.queue c.in-Some.place c.in-Some.ensures.cases.was).1

pub enter-requires-clause-width : goal.enter-requires-clause-width
enter-requires-clause-width c =
    let was = c.loop-place.invariant.width in
    record { queue = c.in-Some.ensures.room ∙ was.queue; marks = was.marks; sets = was.sets }

pub overflow_add-from : goal.overflow_add-from
overflow_add-from c =
    omega (arith, few_places c.args.pair.now.circuit.now c.args.wiring.now c.requires.wiring, c.in-Some.ensures.within, c.loop-place.invariant.width.queue)

pub loop-place-preserved : goal.loop-place-preserved
loop-place-preserved c =
    let circuit = c.args.pair.now.circuit.now in
    let wiring = c.args.wiring.now in
    let place = c.in-Some.place in
    let line = get_or c.order-order.result.now place 0 in
    let queue = c.loop-place.queue in
    let taken = c.take_lowest.new.self in
    let was = c.loop-place.invariant in
    let lowest : IsLowest queue taken place = c.in-Some.ensures.cases in
    let within : place < length wiring.order = omega (arith, c.in-Some.ensures.within, was.width.queue) in
    let at = ordered_line circuit wiring c.requires.wiring c.order-order.result.now c.order-order.ensures place within in
    record {
      from = omega arith;
      width = c.enter.ensures.width;
      low = none_before circuit wiring c.requires.wiring place line queue taken c.enter.new.queue within at.2 lowest c.enter.ensures.woken.others;
      spread = c.enter.ensures.spread (λ l. false)
          (spread_taken circuit c.requires.wiring.circuit c.args.pair.now.f c.args.pair.now.g wiring c.requires.wiring queue c.loop-place.cone c.loop-place.sets.items was.spread taken place line at.2 lowest);
    }

pub returns-clause-sets : goal.returns-clause-sets
returns-clause-sets c =
    spread_sets c.args.pair.now.circuit.now c.requires.wiring.circuit c.args.pair.now.f c.args.pair.now.g c.args.wiring.now c.requires.wiring c.loop-place.queue c.loop-place.cone c.loop-place.sets.items
    c.loop-place.invariant.spread c.in_default.ensures.cases.0 c.loop-place.invariant.width.sets

pub returns-clause-cone : goal.returns-clause-cone
returns-clause-cone c =
    spread_marks c.args.pair.now.circuit.now c.requires.wiring.circuit c.args.pair.now.f c.args.pair.now.g c.args.wiring.now c.requires.wiring c.loop-place.queue c.loop-place.cone c.loop-place.sets.items
    c.loop-place.invariant.spread c.in_default.ensures.cases.0 c.loop-place.invariant.width.marks

pub bounds-order-place : goal.bounds-order-place
bounds-order-place c = omega (arith, c.in-Some.ensures.within, c.loop-place.invariant.width.queue, ap length c.order-order.ensures)

pub enter-requires-clause-split : goal.enter-requires-clause-split
enter-requires-clause-split c =
    let pair = c.args.pair.now in
    ap (λ o. is_split pair.circuit.now pair.f pair.g (get_or o c.in-Some.place 0)) c.order-order.ensures ∙ c.loop-place.invariant.spread.waiting c.in-Some.place c.in-Some.ensures.cases.was
