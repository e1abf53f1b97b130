use Rattle.std.proofs.Common.{◌<◌, ◌∙◌, length, sym, ap, arith, subst}
use Rattle.net_model.proofs.Places.{places_are_gates}
use Rattle.pair_sets.specs.CubeState.{set_at}
use Rattle.pair_sets.specs.Events.{ArePairsSettled, AreLoose, gate_line_pairs}
use Rattle.pair_sets.proofs.EventLemmas.{settled_after, loose_after}
use Rattle.pair_sets.proofs.PairLemmas.{within_same}
use Rattle.pair_sets.proofs.TrailLemmas.{longer_more}
use Rattle.pair_sets.proofs.events.change_source.Goals as goal

pub settle-requires-clause-queue : goal.settle-requires-clause-queue
settle-requires-clause-queue c = c.requires.queue ∙ sym (places_are_gates c.args.pair.now.circuit.now c.wiring-wiring.result.now c.wiring-wiring.ensures)

pub follow-requires-clause-width : goal.follow-requires-clause-width
follow-requires-clause-width c = c.settle.ensures.longer.whole ∙ c.requires.width

pub follow-requires-clause-queue : goal.follow-requires-clause-queue
follow-requires-clause-queue c = c.settle.ensures.queue ∙ c.requires.queue ∙ sym (places_are_gates c.args.pair.now.circuit.now c.wiring-wiring.result.now c.wiring-wiring.ensures)

pub follow-requires-clause-settled : goal.follow-requires-clause-settled
follow-requires-clause-settled c =
    let circuit = c.args.pair.now.circuit.now in
    let f = c.args.pair.now.f in
    let g = c.args.pair.now.g in
    let wiring = c.wiring-wiring.result.now in
    let sets = c.args.trail.now.sets.items in
    let inside : c.args.source < length sets = omega (arith, c.requires.width, c.requires.source) in
    subst (ArePairsSettled circuit f g wiring.order c.settle.new.queue) (sym c.settle.ensures.sets)
    (settled_after circuit f g c.wiring-wiring.ensures.circuit sets c.args.source c.args.pairs inside (λ h. absurd (omega (arith, h, c.requires.source))) wiring c.wiring-wiring.ensures c.args.queue.now c.settle.new.queue c.settle.ensures.wakes
    (λ l over under ne idle. c.requires.right l over under))

pub follow-requires-clause-loose : goal.follow-requires-clause-loose
follow-requires-clause-loose c =
    let circuit = c.args.pair.now.circuit.now in
    let f = c.args.pair.now.f in
    let g = c.args.pair.now.g in
    let sets = c.args.trail.now.sets.items in
    let inside : c.args.source < length sets = omega (arith, c.requires.width, c.requires.source) in
    subst (AreLoose circuit f g) (sym c.settle.ensures.sets)
    (loose_after circuit f g c.wiring-wiring.ensures.circuit sets c.args.source c.args.pairs inside (λ h. absurd (omega (arith, h, c.requires.source))) c.requires.fewer
    (λ l over under. within_same (gate_line_pairs circuit f g sets l) (set_at sets l) (sym (c.requires.right l over under))))

pub returns-clause-longer : goal.returns-clause-longer
returns-clause-longer c = longer_more c.args.trail.now c.settle.new.trail c.follow.new.trail c.settle.ensures.longer c.follow.ensures.longer

pub returns-clause-queue : goal.returns-clause-queue
returns-clause-queue c = c.follow.ensures.queue ∙ c.settle.ensures.queue

pub returns-clause-right : goal.returns-clause-right
returns-clause-right c = λ l over under. c.follow.ensures.settled l over under (λ place h e. c.follow.ensures.none place)

pub returns-clause-sources : goal.returns-clause-sources
returns-clause-sources c = λ line h. c.follow.ensures.sources line h ∙ ap (λ xs. set_at xs line) c.settle.ensures.sets
