use Rattle.std.proofs.Common.{take, ◌++◌}
use Rattle.clause_pool.specs.Clauses.{Clause}
use Rattle.pair_miter.specs.Resolution.{clause_without}
use Rattle.refute_check.specs.Reached.{IsReached}
use Rattle.refute_check.proofs.reached.Reached.resolve.Given as goal

abbrev pub invariant-loop-lit : goal.invariant-loop-lit
invariant-loop-lit l = (clause : Clause) → IsReached l.initial.self clause → IsReached l.self (clause ++ clause_without l.opposite (take l.lit-index l.other))
