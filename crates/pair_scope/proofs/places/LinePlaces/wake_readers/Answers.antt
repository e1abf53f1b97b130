use Rattle.std.proofs.Common.{◌≡◌, ◌<◌, ◌≤◌, ◌+◌, ◌-◌, ◌∙◌, [], ◌⊎◌, ℕ, List, length, take, get_or, true, sym, ap, arith, subst, inl, inr}
use Rattle.std.specs.Prelude.{Bool, Contains}
use Rattle.std.proofs.lemmas.Bool.{cases_eq}
use Rattle.std.proofs.lemmas.List.{take_more, take_all}
use Rattle.std.proofs.lemmas.List.Elements.{Contains-get_or, Contains-push_cases}
use Rattle.net_model.specs.Circuit.{Circuit, line_count, Feeds}
use Rattle.net_model.specs.Wiring.{Wiring}
use Rattle.net_model.proofs.Orders.{reader_is_gate}
use Rattle.net_model.proofs.Places.{places_are_gates}
use Rattle.event_queue.specs.Pending.{is_pending}
use Rattle.pair_scope.specs.Places.{ArePlacesOf, AreWokenFrom}
use Rattle.pair_scope.proofs.PlaceLemmas.{place_of, gate_behind, gate_line, gate_place}
use Rattle.pair_scope.proofs.places.LinePlaces.wake_readers.Goals as goal

-- the readers wait, by their places among all lines
module _ (c : Circuit) (wiring : Wiring) (lines places : List ℕ) (is : ArePlacesOf c wiring lines places) (line sources : ℕ) (first : sources ≡ c.sources) (readers : List ℕ) (are : readers ≡ get_or wiring.readers line []) where
  reader_below : (at : ℕ) → Contains readers at → at < length wiring.order
  reader_below at m = is.wired.readers.below line at (subst (λ us. Contains us at) are m)

  reader_inside : (at : ℕ) → Contains readers at → sources + at < line_count c
  reader_inside at m = omega (arith, reader_below at m, places_are_gates c wiring is.wired, first)

  readers_woken : (old new : List Bool) → ((place : ℕ) → is_pending old place ≡ true → is_pending new place ≡ true) → ((at : ℕ) → Contains readers at → is_pending new (sources + at) ≡ true)
      → ((place : ℕ) → is_pending new place ≡ true → (is_pending old place ≡ true) ⊎ ((at : ℕ) × Contains readers at × (place ≡ sources + at))) → AreWokenFrom c line lines places old new
  readers_woken old new kept here only = record {
    kept = kept;
    here = λ reader feeds.
        let gate = reader_is_gate c line reader feeds in
        let own = place_of c wiring lines places is reader gate.1 in
        let place : ℕ = get_or places reader 0 in
        let behind : c.sources ≤ place = gate_behind c wiring is.wired lines is.are place (subst (λ l. c.sources ≤ l) (sym own.1) gate.0) in
        let at : ℕ = place - c.sources in
        let there : reader ≡ get_or wiring.order at 0 = sym own.1 ∙ gate_line c wiring is.wired lines is.are place behind in
        let has = is.wired.readers.all line at (omega (arith, own.0, places_are_gates c wiring is.wired, behind)) (subst (λ l. Feeds c line l) there feeds) in
        ap (is_pending new) (let e : place ≡ sources + at = omega (arith, behind, first) in e) ∙ here at (subst (λ us. Contains us at) (sym are) has);
    only = λ place t. elim (only place t) [
      | inl was ↦ inl was
      | inr (at, m, e) ↦
          let there : get_or lines place 0 ≡ get_or wiring.order at 0 = ap (λ p. get_or lines p 0) (e ∙ ap (λ n. n + at) first) ∙ gate_place c wiring is.wired lines is.are at in
          inr (
            subst (λ p. p < line_count c) (sym e) (reader_inside at m),
            subst (λ l. Feeds c line l) (sym there) (is.wired.readers.only line at (subst (λ us. Contains us at) are m)),
          )
    ];
  }

pub overflow_add-sources : goal.overflow_add-sources
overflow_add-sources c =
    let a = c.args.self.now in
    let i = c.loop-reader.reader-index in
    let inside = reader_inside a.circuit.now a.wiring.now a.lines.items a.places.items c.requires.placed c.args.line c.sources-sources.result c.sources-sources.ensures.value c.readers-reader-items.result.now c.readers-reader-items.ensures
    (get_or c.readers-reader-items.result.now i 0) (Contains-get_or c.readers-reader-items.result.now i 0 c.loop-reader-test.true) in
    omega (arith, inside, c.requires.placed.wired.circuit.small)

pub insert-requires : goal.insert-requires
insert-requires c =
    let a = c.args.self.now in
    let i = c.loop-reader.reader-index in
    let inside = reader_inside a.circuit.now a.wiring.now a.lines.items a.places.items c.requires.placed c.args.line c.sources-sources.result c.sources-sources.ensures.value c.readers-reader-items.result.now c.readers-reader-items.ensures
    (get_or c.readers-reader-items.result.now i 0) (Contains-get_or c.readers-reader-items.result.now i 0 c.loop-reader-test.true) in
    omega (arith, inside, c.requires.room, c.loop-reader.invariant.room)

pub loop-reader-preserved : goal.loop-reader-preserved
loop-reader-preserved c =
    let was = c.loop-reader.invariant in
    let readers = c.readers-reader-items.result.now in
    let i = c.loop-reader.reader-index in
    let reader = get_or readers i 0 in
    let sources = c.sources-sources.result in
    let new = c.insert.new.self in
    let kept : (p : ℕ) → is_pending c.loop-reader.queue p ≡ true → is_pending new p ≡ true = λ p t. elim (cases_eq p (sources + reader)) [
      | inl same ↦ ap (is_pending new) same ∙ c.insert.ensures.here
      | inr ne ↦ c.insert.ensures.others p ne ∙ t
    ] in
    record {
      room = c.insert.ensures.room ∙ was.room;
      kept = λ p t. kept p (was.kept p t);
      here = λ at m. elim (Contains-push_cases (take i readers) reader at (subst (λ xs. Contains xs at) (take_more readers i 0 c.loop-reader-test.true) m)) [
        | inl earlier ↦ kept (sources + at) (was.here at earlier)
        | inr same ↦ ap (λ n. is_pending new (sources + n)) (sym same) ∙ c.insert.ensures.here
      ];
      only = λ p t. elim (cases_eq p (sources + reader)) [
        | inl same ↦ inr (reader, Contains-get_or readers i 0 c.loop-reader-test.true, same)
        | inr ne ↦ was.only p (sym (c.insert.ensures.others p ne) ∙ t)
      ];
    }

pub returns-clause-woken : goal.returns-clause-woken
returns-clause-woken c =
    let a = c.args.self.now in
    let was = c.loop-reader.invariant in
    let readers = c.readers-reader-items.result.now in
    let all : take c.loop-reader.reader-index readers ≡ readers = take_all c.loop-reader.reader-index readers c.loop-reader-test.false in
    readers_woken a.circuit.now a.wiring.now a.lines.items a.places.items c.requires.placed c.args.line c.sources-sources.result c.sources-sources.ensures.value readers c.readers-reader-items.ensures
    c.args.queue.now c.loop-reader.queue was.kept (λ at m. was.here at (subst (λ xs. Contains xs at) (sym all) m)) was.only
