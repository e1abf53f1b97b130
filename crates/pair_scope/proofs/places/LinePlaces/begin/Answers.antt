use Rattle.std.proofs.Common.{◌≡◌, ◌<◌, ◌∙◌, ℕ, get_or, sym, ap, arith, inl, inr}
use Rattle.std.specs.Prelude.{Option, Some}
use Rattle.std.proofs.lemmas.Bool.{cases_eq}
use Rattle.std.proofs.lemmas.List.{get_or_read}
use Rattle.std.proofs.lemmas.Option.{same_Some}
use Rattle.net_model.specs.Circuit.{line_count}
use Rattle.net_model.specs.Scope.{first_changed}
use Rattle.net_model.proofs.FirstChanged.{first_inside}
use Rattle.event_queue.specs.Pending.{is_pending}
use Rattle.pair_scope.proofs.PlaceLemmas.{place_of}
use Rattle.pair_scope.proofs.places.LinePlaces.begin.Goals as goal

pub insert-requires : goal.insert-requires
insert-requires c =
    let a = c.args.self.now in
    let line = c.in-Some.line in
    let inside = first_inside a.circuit.now c.args.fault line c.requires.fault (sym c.first_changed.ensures ∙ c.in-Some.is) in
    let read = get_or_read a.places.items line c.index.result.now (omega (arith, inside, c.requires.placed.whole)) c.index.ensures 0 in
    omega (arith, read, (place_of a.circuit.now a.wiring.now a.lines.items a.places.items c.requires.placed line inside).0, c.requires.room)

pub returns-in-Some-clause-begun : goal.returns-in-Some-clause-begun
returns-in-Some-clause-begun c =
    let a = c.args.self.now in
    let line = c.in-Some.line in
    let new = c.insert.new.self in
    let first : ◌≡◌ {A = Option ℕ} (first_changed c.args.fault) (Some line) = sym c.first_changed.ensures ∙ c.in-Some.is in
    let inside : line < line_count a.circuit.now = first_inside a.circuit.now c.args.fault line c.requires.fault first in
    let place : ℕ = c.index.result.now in
    let read : place ≡ get_or a.places.items line 0 = get_or_read a.places.items line c.index.result.now (omega (arith, inside, c.requires.placed.whole)) c.index.ensures 0 in
    let there : get_or a.lines.items place 0 ≡ line = ap (λ p. get_or a.lines.items p 0) read ∙ (place_of a.circuit.now a.wiring.now a.lines.items a.places.items c.requires.placed line inside).1 in
    record {
      kept = λ p t. elim (cases_eq p place) [
        | inl same ↦ ap (is_pending new) same ∙ c.insert.ensures.here
        | inr ne ↦ c.insert.ensures.others p ne ∙ t
      ];
      here = λ l e.
          let same : l ≡ line = same_Some l line (sym e ∙ first) in
          ap (is_pending new) (ap (λ k. get_or a.places.items k 0) same ∙ sym read) ∙ c.insert.ensures.here;
      only = λ p t. elim (cases_eq p place) [
        | inl same ↦ inr (first ∙ ap Some (sym (ap (λ q. get_or a.lines.items q 0) same ∙ there)))
        | inr ne ↦ inl (sym (c.insert.ensures.others p ne) ∙ t)
      ];
    }
