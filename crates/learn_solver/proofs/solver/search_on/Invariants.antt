use Rattle.std.proofs.Common.{◌-◌, length}
use Rattle.pair_miter.specs.Adds.{Grows}
use Rattle.learn_solver.specs.Search.{IsSearch}
use Rattle.learn_solver.proofs.solver.search_on.Given as goal

abbrev pub invariant-conflicts : goal.invariant-conflicts
invariant-conflicts l = record {
  search : IsSearch l.miter l.conflicts l.search l.pool.clauses;
  grows : Grows l.initial.pool l.pool;
}

abbrev pub decreases-conflicts : goal.decreases-conflicts
decreases-conflicts l = l.conflicts - length l.search.chains.items
