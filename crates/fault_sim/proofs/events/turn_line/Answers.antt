use Rattle.std.proofs.Common.{◌≡◌, ◌≢◌, ◌<◌, ◌≤◌, ◌∙◌, [], ℕ, length, get_or, true, sym, ap, subst, refl, arith, inl, inr}
use Rattle.std.specs.Prelude.{Contains}
use Rattle.std.proofs.lemmas.Bool.{false_from_ne_true, cases_eq}
use Rattle.std.proofs.lemmas.List.{length-set, length_push, get_or-set_same}
use Rattle.std.proofs.lemmas.List.Elements.{Contains-get_or}
use Rattle.net_model.specs.Circuit.{Circuit, Feeds}
use Rattle.net_model.specs.Wiring.{Wiring, IsWiring}
use Rattle.net_model.proofs.Elements.{none_in, true_false}
use Rattle.net_model.proofs.Orders.{order_only}
use Rattle.net_model.proofs.Places.{later_place, few_places, places_are_gates}
use Rattle.net_model.proofs.SetSoFar.{fits_from}
use Rattle.event_queue.specs.Pending.{is_pending, IsLowest, IsIdle}
use Rattle.event_queue.proofs.Marks.{lowest_left, not_before}
use Rattle.fault_sim.specs.Rows.{Rows}
use Rattle.fault_sim.specs.TurnedLines.{IsSettled}
use Rattle.fault_sim.specs.Events.{AreFalsePast}
use Rattle.fault_sim.proofs.SettledLemmas.{past_set, settled_start, settled_apart, idle_unread}
use Rattle.fault_sim.proofs.events.turn_line.Goals as goal

wiring_is : (circuit same : Circuit) (wiring : Wiring) → same ≡ circuit → IsWiring same wiring → IsWiring circuit wiring
wiring_is circuit same wiring e is = subst (λ (n : Circuit). IsWiring n wiring) e is

pub set-requires-clause-within : goal.set-requires-clause-within
set-requires-clause-within c = omega (arith, c.requires.width, c.requires.line)

pub set-requires-clause-room : goal.set-requires-clause-room
set-requires-clause-room c = omega (arith, c.requires.room, ap (length {A = ℕ}) c.requires.listed)

pub wake-requires : goal.wake-requires
wake-requires c = λ k d h.
    let circuit = c.args.good.now.circuit in
    let wiring = c.wiring-wiring.result.now in
    let wired = wiring_is circuit c.circuit.result.now wiring c.circuit.ensures c.wiring-wiring.ensures in
    let line = c.args.line in
    let users = c.readers.result.now in
    let below = wired.readers.below line (get_or users k d) (subst (λ us. Contains us (get_or users k d)) c.readers.ensures (Contains-get_or users k d h)) in
    omega (arith, below, c.requires.queue, places_are_gates circuit wiring wired)

pub loop-place-init : goal.loop-place-init
loop-place-init c =
    let good = c.args.good.now in
    let circuit = good.circuit in
    let wiring = c.wiring-wiring.result.now in
    let wired = wiring_is circuit c.circuit.result.now wiring c.circuit.ensures c.wiring-wiring.ensures in
    let order = wiring.order in
    let rows = c.args.rows.now.rows in
    let line = c.args.line in
    let lanes = c.args.lanes in
    let inside : line < length rows = omega (arith, c.requires.width, c.requires.line) in
    let new = ap (λ (r : Rows). r.rows) c.set.ensures in
    let woken : (place : ℕ) → is_pending c.wake.new.self place ≡ true → (place < length order) × Feeds circuit line (get_or order place 0) =
    λ place t. elim (c.wake.ensures.only place t) [
      | inl was ↦ absurd (true_false (is_pending c.args.queue.now place) was (c.requires.none place))
      | inr has ↦
          let there = subst (λ us. Contains us place) c.readers.ensures has in
          (wired.readers.below line place there, wired.readers.only line place there)
    ] in
    record {
      from = omega arith;
      room = refl;
      listed = omega (arith, ap (λ (r : Rows). length r.listed) c.set.ensures, length_push c.args.rows.now.listed line, ap (length {A = ℕ}) c.requires.listed);
      low = λ place h. absurd (omega arith);
      within = λ place t. (woken place t).0;
      after = λ own place h e t.
          let read = woken place t in
          later_place circuit wiring wired own place h read.0 (subst (λ k. Feeds circuit k (get_or order place 0)) (sym e) read.1);
      turned = ap (λ (r : Rows). get_or r.rows line []) c.set.ensures ∙ get_or-set_same rows line lanes [] inside;
      settled = λ l within ne idle. subst (λ r. IsSettled good r l) (sym new)
          (settled_apart good wired.circuit rows line lanes c.requires.width inside l within ne
          (idle_unread circuit wiring wired c.wake.new.self line (λ n has. c.wake.ensures.here n (subst (λ us. Contains us n) (sym c.readers.ensures) has)) l idle)
          (settled_start good rows c.requires.width c.requires.clear l within));
      underway = record {
        width = ap length new ∙ length-set rows line lanes ∙ c.requires.width;
        queue_room = omega (arith, c.requires.queue, c.wake.ensures.room, places_are_gates circuit wiring wired);
        past = subst (AreFalsePast good) (sym new) (past_set good rows line lanes (λ k h lane above low. c.requires.clear k h (none_in k) lane low) c.requires.past);
      };
    }

pub settle-requires-clause-wiring : goal.settle-requires-clause-wiring
settle-requires-clause-wiring c = wiring_is c.args.good.now.circuit c.circuit.result.now c.wiring-wiring.result.now c.circuit.ensures c.wiring-wiring.ensures

pub settle-requires-clause-gate : goal.settle-requires-clause-gate
settle-requires-clause-gate c =
    let circuit = c.args.good.now.circuit in
    let wiring = c.wiring-wiring.result.now in
    let wired = wiring_is circuit c.circuit.result.now wiring c.circuit.ensures c.wiring-wiring.ensures in
    let place = c.in-Some.place in
    let inside : place < length wiring.order = c.loop-place.invariant.within place c.in-Some.ensures.cases.was in
    rw c.order-order.ensures (order_only circuit (fits_from circuit wired.circuit) wiring.order wired.order place inside).0

pub settle-requires-clause-line : goal.settle-requires-clause-line
settle-requires-clause-line c =
    let circuit = c.args.good.now.circuit in
    let wiring = c.wiring-wiring.result.now in
    let wired = wiring_is circuit c.circuit.result.now wiring c.circuit.ensures c.wiring-wiring.ensures in
    let place = c.in-Some.place in
    let inside : place < length wiring.order = c.loop-place.invariant.within place c.in-Some.ensures.cases.was in
    rw c.order-order.ensures (order_only circuit (fits_from circuit wired.circuit) wiring.order wired.order place inside).1

pub settle-requires-clause-room : goal.settle-requires-clause-room
settle-requires-clause-room c =
    let circuit = c.args.good.now.circuit in
    let wiring = c.wiring-wiring.result.now in
    let wired = wiring_is circuit c.circuit.result.now wiring c.circuit.ensures c.wiring-wiring.ensures in
    let place = c.in-Some.place in
    let inside = c.loop-place.invariant.within place c.in-Some.ensures.cases.was in
    let low = not_before c.loop-place.queue c.loop-place.from place c.loop-place.invariant.low c.in-Some.ensures.cases.was in
    omega (arith, c.requires.room, c.loop-place.invariant.room, ap (λ (r : Rows). r.room) c.set.ensures, c.loop-place.invariant.listed, places_are_gates circuit wiring wired)

pub overflow_add-from : goal.overflow_add-from
overflow_add-from c =
    let circuit = c.args.good.now.circuit in
    let wiring = c.wiring-wiring.result.now in
    let wired = wiring_is circuit c.circuit.result.now wiring c.circuit.ensures c.wiring-wiring.ensures in
    omega (arith, few_places circuit wiring wired, c.loop-place.invariant.within c.in-Some.place c.in-Some.ensures.cases.was)

pub loop-place-preserved : goal.loop-place-preserved
loop-place-preserved c =
    let good = c.args.good.now in
    let circuit = good.circuit in
    let wiring = c.wiring-wiring.result.now in
    let wired = wiring_is circuit c.circuit.result.now wiring c.circuit.ensures c.wiring-wiring.ensures in
    let was = c.loop-place.invariant in
    let order = wiring.order in
    let place = c.in-Some.place in
    let gate = get_or order place 0 in
    let lowest : IsLowest c.loop-place.queue c.take_lowest.new.self place = c.in-Some.ensures.cases in
    let inside : place < length order = was.within place lowest.was in
    let low : c.loop-place.from ≤ place = not_before c.loop-place.queue c.loop-place.from place was.low lowest.was in
    let pending = rw c.order-order.ensures at c.settle.ensures.pending in
    let others = rw c.order-order.ensures at c.settle.ensures.others in
    let settled = rw c.order-order.ensures at c.settle.ensures.settled in
    let stay = rw c.order-order.ensures at c.settle.ensures.stay in
    let above : (p : ℕ) → is_pending c.settle.new.queue p ≡ true → (place < p) × (p < length order) =
    λ p t. elim (pending p t) [
      | inl old ↦
          let left = lowest_left c.loop-place.queue c.take_lowest.new.self place lowest p old in
          (left.0, was.within p left.1)
      | inr (h, feeds) ↦ (later_place circuit wiring wired place p inside h feeds, h)
    ] in
    let apart : c.args.line ≢ gate = λ e. let self = was.after place place inside (sym e) lowest.was in omega arith in
    record {
      from = omega arith;
      room = c.settle.ensures.room ∙ was.room;
      listed = omega (arith, c.settle.ensures.listed, was.listed, low);
      low = λ p h. false_from_ne_true (is_pending c.settle.new.queue p) (λ t. let up = (above p t).0 in omega arith);
      within = λ p t. (above p t).1;
      after = λ own p h e t.
          let up = (above p t).0 in
          let behind = was.after own place h e lowest.was in
          omega arith;
      turned = others c.args.line apart ∙ was.turned;
      settled = λ l within ne idle. elim (cases_eq l gate) [
        | inl here ↦ subst (IsSettled good c.settle.new.rows.rows) (sym here) settled
        | inr other ↦
            let was_idle : IsIdle order c.loop-place.queue l = λ p h e.
            let still : is_pending c.take_lowest.new.self p ≡ is_pending c.loop-place.queue p = lowest.others p (λ same. other (sym e ∙ ap (λ k. get_or order k 0) same)) in
            false_from_ne_true (is_pending c.loop-place.queue p) (λ t. true_false (is_pending c.settle.new.queue p) (c.settle.ensures.waiting p (still ∙ t)) (idle p h e)) in
            stay l within other idle (was.settled l within ne was_idle)
      ];
      underway = c.settle.ensures.underway;
    }

pub returns-clause-settled : goal.returns-clause-settled
returns-clause-settled c = λ line inside ne. c.loop-place.invariant.settled line inside ne (λ place h e. c.in_default.ensures.cases.0 place)

pub returns-clause-queue : goal.returns-clause-queue
returns-clause-queue c =
    let circuit = c.args.good.now.circuit in
    let wiring = c.wiring-wiring.result.now in
    let wired = wiring_is circuit c.circuit.result.now wiring c.circuit.ensures c.wiring-wiring.ensures in
    omega (arith, c.loop-place.invariant.underway.queue_room, c.in_default.ensures.room, places_are_gates circuit wiring wired)
