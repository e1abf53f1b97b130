use Rattle.std.proofs.Common.{List, Bool, get_or, subst}
use Rattle.answer_numbers.specs.Differences.{HasPush}
use Rattle.answer_numbers.proofs.AddLemmas.{added_none, added_more, added_all}
use Rattle.answer_numbers.proofs.differences.PositionLists.add_place.Goals as goal

pub loop-position-init : goal.loop-position-init
loop-position-init c = added_none c.args.sim.now c.args.place c.differing_positions-position-items.result.now c.args.self.now c.requires.lists c.requires.absent

pub loop-position-preserved : goal.loop-position-preserved
loop-position-preserved c =
    let items = c.differing_positions-position-items in
    let x = get_or items.result.now c.loop-position.position-index 0 in
    added_more items.ensures.ascending c.loop-position-test.true c.loop-position.invariant
    (subst (λ (row : List Bool). HasPush x c.args.place row c.loop-position.self c.push.new.self) c.differs.ensures c.in_ok-push.ensures)

pub returns : goal.returns
returns c =
    let items = c.differing_positions-position-items in
    added_all c.requires.positions items.ensures.exactly c.loop-position-test.false c.loop-position.invariant
