use Rattle.std.proofs.Common.{◌≡◌, drop}
use Rattle.pair_miter.proofs.AddSteps.{Remains}
use Rattle.pair_miter.proofs.rows.write_clauses.Given as goal

abbrev pub invariant-loop-clause : goal.invariant-loop-clause
invariant-loop-clause g l = record {
  same : l.tidier ≡ l.initial.tidier;
  remains : Remains l.initial.pool l.pool l.clauses (drop l.clause-index l.clauses);
}
