use Rattle.std.proofs.Common.{arith}
use Rattle.samediff_dict.proofs.SparseLemmas.{room_same, room_sparse}
use Rattle.samediff_dict.proofs.numbers.make_room.Goals as goal

pub returns-clause-sparse : goal.returns-clause-sparse
returns-clause-sparse c =
    rw (c.in_ok-push.ensures.items, c.push_reserved.ensures.items, c.reserve.ensures.items) (room_sparse c.args.marks.now.items c.args.before.now.items c.args.others.now c.args.len c.requires.sparse (omega (arith, c.if-len.false, c.len.ensures, c.args.marks.now.ok.0)))

pub returns-clause-same : goal.returns-clause-same
returns-clause-same c =
    rw (c.in_ok-push.ensures.items, c.push_reserved.ensures.items, c.reserve.ensures.items) (room_same c.args.marks.now.items c.args.before.now.items c.args.others.now _ c.args.len c.requires.sparse)
