use Rattle.std.proofs.Common.{◌≡◌, ◌<◌, ◌∙◌, ℕ, List, length, get_or, ap, arith, subst}
use Rattle.std.specs.Prelude.{All}
use Rattle.std.proofs.lemmas.List.Elements.{All-contains}
use Rattle.net_model.specs.Circuit.{Circuit, IsCircuit, line_count}
use Rattle.event_queue.specs.Pending.{IsLowest}
use Rattle.pair_scope.specs.Places.{IsShownBy, from_end}
use Rattle.pair_scope.proofs.PlaceLemmas.{lines_count, line_inside}
use Rattle.pair_scope.proofs.RelevantLemmas.{found_none, found_more, found_all}
use Rattle.pair_scope.proofs.relevant.find_relevant.Goals as goal

shown_inside : (c : Circuit) → IsCircuit c → (positions : List ℕ) → All (λ at. at < length c.positions) positions → (line : ℕ) → IsShownBy c positions line → line < line_count c
shown_inside c w positions below line (at, m, e) = subst (λ l. l < line_count c) e (w.positions at 0 (All-contains (λ n. n < length c.positions) positions at below m))

pub loop-place-init : goal.loop-place-init
loop-place-init c =
    let a = c.args.places.now in
    let wired = c.requires.placed.wired in
    record {
      back_room = c.wake_shown.ensures.room ∙ c.requires.room;
      found_room = c.requires.found_room;
      so_far = found_none a.circuit.now c.args.reached.now a.wiring.now a.lines.items a.places.items c.requires.placed c.args.back.now c.wake_shown.new.back c.args.found.now
          (shown_inside a.circuit.now wired.circuit c.args.reached.now c.requires.reached) c.requires.none c.requires.none_found c.wake_shown.ensures.woken;
    }

pub line_back-line-requires : goal.line_back-line-requires
line_back-line-requires c =
    let a = c.args.places.now in
    omega (arith, c.in-Some.ensures.within, lines_count a.circuit.now a.wiring.now c.requires.placed.wired a.lines.items c.requires.placed.are)

pub insert-requires : goal.insert-requires
insert-requires c =
    let a = c.args.places.now in
    let place = c.in-Some.place in
    let count : length a.lines.items ≡ line_count a.circuit.now = lines_count a.circuit.now a.wiring.now c.requires.placed.wired a.lines.items c.requires.placed.are in
    let inside = line_inside a.circuit.now a.wiring.now c.requires.placed.wired a.lines.items c.requires.placed.are (from_end (length a.lines.items) place) (omega (arith, c.in-Some.ensures.within, count)) in
    omega (arith, c.line_back-line.ensures, inside, c.loop-place.invariant.found_room)

pub loop-place-preserved : goal.loop-place-preserved
loop-place-preserved c =
    let was = c.loop-place.invariant in
    let a = c.args.places.now in
    let circuit = a.circuit.now in
    let back = c.loop-place.back in
    let taken = c.take_lowest.new.self in
    let place = c.in-Some.place in
    let line = c.line_back-line.result in
    let lowest : IsLowest back taken place = c.in-Some.ensures.cases in
    let inside : place < line_count circuit = omega (arith, c.in-Some.ensures.within) in
    let count = lines_count circuit a.wiring.now c.requires.placed.wired a.lines.items c.requires.placed.are in
    let at : line ≡ get_or a.lines.items (from_end (line_count circuit) place) 0 = c.line_back-line.ensures ∙ ap (λ n. get_or a.lines.items (from_end n place) 0) count in
    record {
      back_room = c.wake_pins.ensures.room ∙ c.in-Some.ensures.room ∙ was.back_room;
      found_room = c.insert.ensures.room ∙ was.found_room;
      so_far = found_more circuit c.args.reached.now a.wiring.now a.lines.items a.places.items c.requires.placed c.loop-place.from back c.loop-place.found was.so_far
          taken c.wake_pins.new.back c.insert.new.self place line inside at lowest c.wake_pins.ensures.woken c.insert.ensures.here c.insert.ensures.others;
    }

pub returns-clause-found : goal.returns-clause-found
returns-clause-found c = λ line h.
    let a = c.args.places.now in
    found_all a.circuit.now c.args.reached.now a.wiring.now a.lines.items a.places.items c.requires.placed c.loop-place.from c.loop-place.back c.loop-place.found c.loop-place.invariant.so_far
    c.in_default.ensures.cases.0 (shown_inside a.circuit.now c.requires.placed.wired.circuit c.args.reached.now c.requires.reached) line
