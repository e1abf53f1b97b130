use Rattle.std.proofs.Common.{Some, arith}
use Rattle.std.specs.Prelude.{set}
use Rattle.std.specs.Vec.{with_item}
use Rattle.refute_check.proofs.AssignmentLemmas.{room_for_one, one_held}
use Rattle.refute_check.proofs.assignment.Assignment.hold.Goals as goal

pub returns-clause-assignment : goal.returns-clause-assignment
returns-clause-assignment c =
    let old = c.args.self.now in
    one_held old c.requires.assignment c.args.lit c.requires.within c.requires.undetermined (record { values = with_item old.values c.variable.result (Some c.positive.result); trail = c.push_reserved.new.self })
    (λ i. set old.values.items (c.variable.ensures.value i) (Some (c.positive.ensures i))) c.push_reserved.ensures.items c.push_reserved.ensures.capacity

pub push_reserved-requires : goal.push_reserved-requires
push_reserved-requires c =
    let a = c.args.self.now in
    omega (arith, room_for_one a c.requires.assignment c.args.lit c.requires.within c.requires.undetermined, a.trail.ok.0)
