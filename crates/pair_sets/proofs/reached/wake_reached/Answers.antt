use Rattle.std.proofs.Common.{◌≡◌, ◌<◌, ◌∙◌, length, get_or, take, true, refl, sym, arith, subst}
use Rattle.std.proofs.lemmas.List.{take_more, take_all}
use Rattle.std.proofs.lemmas.List.Elements.{Contains-get_or}
use Rattle.net_model.specs.Circuit.{line_count}
use Rattle.net_model.specs.Scope.{is_split}
use Rattle.net_model.proofs.ReachedPositions.{site_inside, shown_inside, AreShown, none_shown, shown_more, shown_reached}
use Rattle.event_queue.specs.Pending.{is_pending}
use Rattle.pair_sets.proofs.reached.wake_reached.Goals as goal

pub loop-line-init : goal.loop-line-init
loop-line-init c = record {
  room = refl;
  shown = none_shown c.args.pair.now.circuit.now c.args.pair.now.f c.args.pair.now.g (is_pending c.args.positions.now) c.requires.none;
}

pub wake-requires : goal.wake-requires
wake-requires c =
    let line = get_or c.lines-line-items.result.now c.loop-line.line-index 0 in
    shown_inside c.args.pair.now.circuit.now c.args.wiring.now c.requires.wiring line (length c.loop-line.positions) c.showing.result.now c.showing.ensures (c.loop-line.invariant.room ∙ c.requires.room)

pub loop-line-preserved : goal.loop-line-preserved
loop-line-preserved c =
    let pair = c.args.pair.now in
    let circuit = pair.circuit.now in
    let lines = c.lines-line-items.result.now in
    let i = c.loop-line.line-index in
    let line = get_or lines i 0 in
    let was = c.loop-line.invariant in
    let inside : line < line_count circuit = omega (arith, c.lines-line-items.ensures.within i 0 c.loop-line-test.true, c.requires.cone.whole) in
    let split : is_split circuit pair.f pair.g line ≡ true = sym (c.requires.cone.each line inside) ∙ c.lines-line-items.ensures.marked line (Contains-get_or lines i 0 c.loop-line-test.true) in
    record {
      room = c.wake.ensures.room ∙ was.room;
      shown =
          subst (λ xs. AreShown circuit pair.f pair.g xs (is_pending c.wake.new.self)) (sym (take_more lines i 0 c.loop-line-test.true))
          (shown_more circuit c.args.wiring.now c.requires.wiring pair.f pair.g (take i lines) c.showing.result.now line (is_pending c.loop-line.positions) (is_pending c.wake.new.self) split c.showing.ensures
          c.wake.ensures.here c.wake.ensures.kept c.wake.ensures.only was.shown);
    }

pub wake_site-requires : goal.wake_site-requires
wake_site-requires c = λ at t.
    let inside = site_inside c.args.pair.now.circuit.now c.args.pair.now.f at c.requires.first t in
    omega (arith, inside, c.requires.room, c.loop-line.invariant.room)

pub wake_site-requires-2 : goal.wake_site-requires-2
wake_site-requires-2 c = λ at t.
    let inside = site_inside c.args.pair.now.circuit.now c.args.pair.now.g at c.requires.second t in
    omega (arith, inside, c.requires.room, c.loop-line.invariant.room, c.wake_site.ensures.room)

pub returns-clause-reached : goal.returns-clause-reached
returns-clause-reached c =
    let pair = c.args.pair.now in
    let lines = c.lines-line-items.result.now in
    let all = take_all c.loop-line.line-index lines c.loop-line-test.false in
    shown_reached pair.circuit.now c.args.wiring.now c.requires.wiring pair.f pair.g lines (is_pending c.loop-line.positions) (is_pending c.wake_site.new.positions) (is_pending c.wake_site-2.new.positions)
    (subst (λ xs. AreShown pair.circuit.now pair.f pair.g xs (is_pending c.loop-line.positions)) all c.loop-line.invariant.shown)
    (λ line h t. c.lines-line-items.ensures.all line (c.requires.cone.each line h ∙ t)) c.wake_site.ensures.woken c.wake_site-2.ensures.woken
