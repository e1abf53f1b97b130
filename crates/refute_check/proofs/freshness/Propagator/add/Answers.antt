use Rattle.std.proofs.Common.{arith}
use Rattle.std.proofs.lemmas.List.{length_push}
use Rattle.refute_check.proofs.freshness.Propagator.add.Goals as goal

pub returns : goal.returns
returns c = λ variables clauses next ready. record {
  assignment = ready.assignment;
  size = ready.size;
  empty = ready.empty;
  room = omega (arith, ready.room, c.in_ok-add-2.ensures.room, length_push clauses c.args.clause.now);
  unlooked = λ number held there. ready.unlooked number held (c.in_ok-add-2.ensures.none number held there);
  index = c.in_ok-add.ensures variables clauses next ready.index;
}
