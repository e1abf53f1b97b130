use Rattle.pair_miter.specs.Adds.{Grows}
use Rattle.learn_solver.specs.Search.{IsSearch}
use Rattle.learn_solver.proofs.sweep.try_all.Given as goal

abbrev pub invariant-loop-copies : goal.invariant-loop-copies
invariant-loop-copies l = record {
  search : IsSearch l.miter l.conflicts l.search l.pool.clauses;
  grows : Grows l.initial.pool l.pool;
}
