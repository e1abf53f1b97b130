use Rattle.std.proofs.Common.{◌<◌, ◌≤◌, ◌+◌, ◌-◌, ◌++◌, [], length, min}
use Rattle.std.specs.Prelude.{All}
use Rattle.evidence_rules.specs.LogRefusal.{AreRightBefore}
use Rattle.pair_miter.specs.Adds.{Grows}
use Rattle.clause_pool.specs.Proper.{HasVariablesUpTo}
use Rattle.pair_miter.specs.Resolution.{AreAlike}
use Rattle.refute_check.specs.PoolEnds.{HasEndsOf}
use Rattle.refute_check.specs.Propagation.{IsReadyFor}
use Rattle.refute_check.specs.Reached.{IsReached}
use Rattle.refute_check.proofs.log.check_chains.Given as goal

abbrev pub invariant-loop-at : goal.invariant-loop-at
invariant-loop-at l = record {
  before : AreRightBefore l.kind l.initial.pool.clauses l.chains l.at;
  grows : Grows l.initial.pool l.pool;
  held : HasEndsOf l.initial.pool.clauses l.chains (min l.at (length l.chains - 1)) l.pool.clauses;
  alike : l.at < length l.chains → AreAlike (l.initial.pool.clauses ++ before.ends) l.pool.clauses;
  within : All (HasVariablesUpTo l.variables) l.pool.clauses;
  few : length l.pool.clauses ≤ length l.initial.pool.clauses + l.at;
  empty : IsReached l.reached [];
  ready : IsReadyFor l.kind l.variables l.pool.clauses l.propagator;
}
