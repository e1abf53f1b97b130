use Rattle.std.proofs.Common.{◌≡◌, ◌<◌, ◌∙◌, ℕ, List, length, get_or, take, true, refl, sym, arith, subst}
use Rattle.std.specs.Prelude.{filter, Contains}
use Rattle.std.proofs.lemmas.List.{take_more, take_all}
use Rattle.std.proofs.lemmas.List.Elements.{Contains-get_or}
use Rattle.net_model.specs.declared.fault.Fault.{Fault}
use Rattle.net_model.specs.Circuit.{Circuit, line_count}
use Rattle.net_model.specs.Scope.{is_split}
use Rattle.net_model.specs.Wiring.{Wiring}
use Rattle.net_model.proofs.Elements.{Contains-filter, Contains-from_filter}
use Rattle.net_model.proofs.ReachedPositions.{site_inside, shown_inside, AreShown, none_shown, shown_more, shown_reached}
use Rattle.event_queue.specs.Pending.{is_pending}
use Rattle.pair_scope.specs.Places.{ArePlacesOf}
use Rattle.pair_scope.proofs.PlaceLemmas.{lines_all, lines_inside}
use Rattle.pair_scope.proofs.reached.wake_reached.Goals as goal

-- the listed lines are those that are split
module _ (c : Circuit) (wiring : Wiring) (lines places : List ℕ) (is : ArePlacesOf c wiring lines places) (f g : Fault) (split : List ℕ) (are : split ≡ filter (is_split c f g) lines) where
  listed_is : (line : ℕ) → Contains split line → (line < line_count c) × (is_split c f g line ≡ true)
  listed_is line m =
      let kept = Contains-from_filter (is_split c f g) lines line (subst (λ xs. Contains xs line) are m) in
      (lines_inside c wiring is.wired lines is.are line kept.0, kept.1)

  is_listed : (line : ℕ) → line < line_count c → is_split c f g line ≡ true → Contains split line
  is_listed line h t = subst (λ xs. Contains xs line) (sym are) (Contains-filter (is_split c f g) lines line (lines_all c wiring is.wired lines is.are line h) t)

pub loop-line-init : goal.loop-line-init
loop-line-init c = record { room = refl; shown = none_shown c.args.places.now.circuit.now c.args.f c.args.g (is_pending c.args.positions.now) c.requires.none }

pub showing-requires : goal.showing-requires
showing-requires c =
    let a = c.args.places.now in
    let lines = c.args.split.now in
    let i = c.loop-line.line-index in
    let listed = listed_is a.circuit.now a.wiring.now a.lines.items a.places.items c.requires.placed c.args.f c.args.g lines c.requires.split (get_or lines i 0) (Contains-get_or lines i 0 c.loop-line-test.true) in
    omega (arith, listed.0, c.requires.placed.wired.showing_whole)

pub wake-requires : goal.wake-requires
wake-requires c =
    let a = c.args.places.now in
    shown_inside a.circuit.now a.wiring.now c.requires.placed.wired (get_or c.args.split.now c.loop-line.line-index 0) (length c.loop-line.positions) c.showing.result.now c.showing.ensures (c.loop-line.invariant.room ∙ c.requires.room)

pub loop-line-preserved : goal.loop-line-preserved
loop-line-preserved c =
    let a = c.args.places.now in
    let circuit = a.circuit.now in
    let f = c.args.f in
    let g = c.args.g in
    let lines = c.args.split.now in
    let i = c.loop-line.line-index in
    let line = get_or lines i 0 in
    let was = c.loop-line.invariant in
    let listed = listed_is circuit a.wiring.now a.lines.items a.places.items c.requires.placed f g lines c.requires.split line (Contains-get_or lines i 0 c.loop-line-test.true) in
    record {
      room = c.wake.ensures.room ∙ was.room;
      shown =
          subst (λ xs. AreShown circuit f g xs (is_pending c.wake.new.self)) (sym (take_more lines i 0 c.loop-line-test.true))
          (shown_more circuit a.wiring.now c.requires.placed.wired f g (take i lines) c.showing.result.now line (is_pending c.loop-line.positions) (is_pending c.wake.new.self) listed.1 c.showing.ensures
          c.wake.ensures.here c.wake.ensures.kept c.wake.ensures.only was.shown);
    }

pub wake_site-requires : goal.wake_site-requires
wake_site-requires c = λ at t.
    let inside = site_inside c.args.places.now.circuit.now c.args.f at c.requires.first t in
    omega (arith, inside, c.requires.room, c.loop-line.invariant.room)

pub wake_site-requires-2 : goal.wake_site-requires-2
wake_site-requires-2 c = λ at t.
    let inside = site_inside c.args.places.now.circuit.now c.args.g at c.requires.second t in
    omega (arith, inside, c.requires.room, c.loop-line.invariant.room, c.wake_site.ensures.room)

pub returns-clause-reached : goal.returns-clause-reached
returns-clause-reached c =
    let a = c.args.places.now in
    let circuit = a.circuit.now in
    let f = c.args.f in
    let g = c.args.g in
    let lines = c.args.split.now in
    shown_reached circuit a.wiring.now c.requires.placed.wired f g lines (is_pending c.loop-line.positions) (is_pending c.wake_site.new.positions) (is_pending c.wake_site-2.new.positions)
    (subst (λ xs. AreShown circuit f g xs (is_pending c.loop-line.positions)) (take_all c.loop-line.line-index lines c.loop-line-test.false) c.loop-line.invariant.shown)
    (is_listed circuit a.wiring.now a.lines.items a.places.items c.requires.placed f g lines c.requires.split) c.wake_site.ensures.woken c.wake_site-2.ensures.woken
