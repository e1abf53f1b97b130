use Rattle.std.proofs.Common.{◌≡◌, ◌≢◌, ◌<◌, ◌≤◌, ◌∙◌, ℕ, [], length, get_or, sym, ap, subst, arith}
use Rattle.std.proofs.lemmas.List.{get_or-set_other}
use Rattle.net_model.specs.Circuit.{line_count}
use Rattle.event_queue.specs.Pending.{IsLowest, IsIdle}
use Rattle.pair_sets.specs.PairSet.{free_pairs, IsWithin}
use Rattle.pair_sets.specs.CubeState.{set_at}
use Rattle.pair_sets.specs.Events.{ArePairsSettled, AreLoose, gate_line_pairs}
use Rattle.pair_sets.proofs.EventLemmas.{loose_after, settled_after, ordered_line, none_before, waiting_line}
use Rattle.net_model.proofs.Places.{few_places}
use Rattle.pair_sets.proofs.TrailLemmas.{longer_more}
use Rattle.pair_sets.proofs.events.follow.Goals as goal

pub bounds-order-place : goal.bounds-order-place
bounds-order-place c = omega (arith, c.in-Some.ensures.within, c.loop-place.invariant.queue, ap length c.order-order.ensures)

pub line_pairs-pairs-requires-clause-gate : goal.line_pairs-pairs-requires-clause-gate
line_pairs-pairs-requires-clause-gate c =
    (waiting_line c.args.pair.now.circuit.now c.args.wiring.now c.requires.wiring c.order-order.result.now c.order-order.ensures c.loop-place.queue c.loop-place.invariant.queue c.in-Some.place c.in-Some.ensures.cases.was).0

pub line_pairs-pairs-requires-clause-line : goal.line_pairs-pairs-requires-clause-line
line_pairs-pairs-requires-clause-line c =
    (waiting_line c.args.pair.now.circuit.now c.args.wiring.now c.requires.wiring c.order-order.result.now c.order-order.ensures c.loop-place.queue c.loop-place.invariant.queue c.in-Some.place c.in-Some.ensures.cases.was).1

pub settle-requires-clause-line : goal.settle-requires-clause-line
settle-requires-clause-line c =
    (waiting_line c.args.pair.now.circuit.now c.args.wiring.now c.requires.wiring c.order-order.result.now c.order-order.ensures c.loop-place.queue c.loop-place.invariant.queue c.in-Some.place c.in-Some.ensures.cases.was).1

pub settle-requires-clause-fewer : goal.settle-requires-clause-fewer
settle-requires-clause-fewer c =
    let circuit = c.args.pair.now.circuit.now in
    let f = c.args.pair.now.f in
    let g = c.args.pair.now.g in
    let sets = c.loop-place.trail.sets.items in
    let order = c.order-order.result.now in
    let line = get_or order c.in-Some.place 0 in
    let at = waiting_line circuit c.args.wiring.now c.requires.wiring order c.order-order.ensures c.loop-place.queue c.loop-place.invariant.queue c.in-Some.place c.in-Some.ensures.cases.was in
    let pairs : c.line_pairs-pairs.result ≡ gate_line_pairs circuit f g sets line = c.line_pairs-pairs.ensures [] ∙ ap (λ s. gate_line_pairs circuit f g s line) c.as_slice.ensures.value in
    subst (λ s. IsWithin s (set_at sets line)) (sym pairs) (c.loop-place.invariant.loose line at.0 at.1)

pub overflow_add-from : goal.overflow_add-from
overflow_add-from c =
    omega (arith, few_places c.args.pair.now.circuit.now c.args.wiring.now c.requires.wiring, c.in-Some.ensures.within, c.loop-place.invariant.queue)

pub loop-place-preserved : goal.loop-place-preserved
loop-place-preserved c =
    let wiring = c.args.wiring.now in
    let circuit = c.args.pair.now.circuit.now in
    let f = c.args.pair.now.f in
    let g = c.args.pair.now.g in
    let order = wiring.order in
    let place = c.in-Some.place in
    let line = get_or c.order-order.result.now place 0 in
    let pairs = c.line_pairs-pairs.result in
    let sets = c.loop-place.trail.sets.items in
    let taken = c.take_lowest.new.self in
    let lowest : IsLowest c.loop-place.queue taken place = c.in-Some.ensures.cases in
    let within : place < length order = omega (arith, c.in-Some.ensures.within, c.loop-place.invariant.queue) in
    let at = ordered_line circuit wiring c.requires.wiring c.order-order.result.now c.order-order.ensures place within in
    let width : length sets ≡ line_count circuit = c.loop-place.invariant.longer.whole ∙ c.requires.width in
    let inside : line < length sets = omega (arith, width, at.1) in
    let is : pairs ≡ gate_line_pairs circuit f g sets line = c.line_pairs-pairs.ensures [] ∙ ap (λ s. gate_line_pairs circuit f g s line) c.as_slice.ensures.value in
    let fewer : IsWithin pairs (set_at sets line) = subst (λ s. IsWithin s (set_at sets line)) (sym is) (c.loop-place.invariant.loose line at.0 at.1) in
    let others : (l : ℕ) → circuit.sources ≤ l → l < line_count circuit → l ≢ line → IsIdle order taken l → set_at sets l ≡ gate_line_pairs circuit f g sets l =
    λ l over under ne idle. c.loop-place.invariant.settled l over under
    (λ p h e. let apart : p ≢ place = λ same. ne (sym e ∙ ap (λ k. get_or order k 0) same ∙ sym at.2) in sym (lowest.others p apart) ∙ idle p h e) in
    record {
      from = omega arith;
      queue = c.settle.ensures.queue ∙ c.in-Some.ensures.room ∙ c.loop-place.invariant.queue;
      low = none_before circuit wiring c.requires.wiring place line c.loop-place.queue taken c.settle.new.queue within at.2 lowest c.settle.ensures.wakes.others;
      longer = longer_more c.args.trail.now c.loop-place.trail c.settle.new.trail c.loop-place.invariant.longer c.settle.ensures.longer;
      room = c.settle.ensures.room;
      settled = subst (ArePairsSettled circuit f g order c.settle.new.queue) (sym c.settle.ensures.sets)
          (settled_after circuit f g c.requires.wiring.circuit sets line pairs inside (λ h. is) wiring c.requires.wiring taken c.settle.new.queue c.settle.ensures.wakes others);
      loose = subst (AreLoose circuit f g) (sym c.settle.ensures.sets)
          (loose_after circuit f g c.requires.wiring.circuit sets line pairs inside (λ h. is) fewer c.loop-place.invariant.loose);
      sources = λ source h.
          ap (λ s. set_at s source) c.settle.ensures.sets
          ∙ get_or-set_other sets line source pairs free_pairs (let ne : source ≢ line = omega (arith, at.0) in ne)
          ∙ c.loop-place.invariant.sources source h;
    }
