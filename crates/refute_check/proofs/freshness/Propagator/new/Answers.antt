use Rattle.std.proofs.Common.{arith}
use Rattle.refute_check.proofs.freshness.Propagator.new.Goals as goal

pub returns : goal.returns
returns c = record {
  assignment = c.in_ok-new.ensures.assignment;
  size = c.in_ok-new.ensures.size;
  empty = c.in_ok-new.ensures.empty;
  room = omega (arith, c.in_ok-none.ensures.room, c.len.ensures);
  unlooked = c.in_ok-none.ensures.none;
  index = c.in_ok-of.ensures;
}
