use Rattle.std.proofs.Common.{◌≡◌, ◌+◌, ◌*◌, ◌<◌, length, get_or, subst, arith}
use Rattle.std.proofs.lemmas.List.{get_or_read}
use Rattle.answer_numbers.specs.NodeNumbers.{HasNodeNumber}
use Rattle.answer_numbers.proofs.NumberedLemmas.{first_lane, all_lanes, numbered_more}
use Rattle.answer_numbers.proofs.node_numbers.NodeNumbers.add_place.Goals as goal

pub loop-lane-init : goal.loop-lane-init
loop-lane-init c = first_lane c.args.trees.now c.requires.cells c.args.place c.args.self.now c.requires.numbered

pub loop-lane-preserved : goal.loop-lane-preserved
loop-lane-preserved c =
    let t = c.args.trees.now in
    let place = c.args.place in
    let lane = c.loop-lane.lane in
    let stands = t.stands.items in
    let inside : lane < t.lanes = omega arith in
    let cell : place * t.lanes + lane < length stands = omega (arith, c.requires.place, inside) in
    let read : c.index.result.now ≡ get_or stands (place * t.lanes + lane) 0 = get_or_read stands (place * t.lanes + lane) c.index.result.now cell c.index.ensures 0 in
    numbered_more t c.requires.cells place lane c.requires.place c.requires.few inside c.loop-lane.self c.loop-lane.invariant c.add.new.self
    (subst (λ n. HasNodeNumber n lane c.loop-lane.self c.add.new.self) read c.add.ensures)

pub returns : goal.returns
returns c = all_lanes c.args.trees.now c.requires.cells c.args.place c.loop-lane.lane c.loop-lane.self (omega arith) c.loop-lane.invariant
