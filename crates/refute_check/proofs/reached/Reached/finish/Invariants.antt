use Rattle.std.proofs.Common.{length}
use Rattle.clause_pool.specs.Clauses.{Clause}
use Rattle.refute_check.specs.Reached.{IsReached}
use Rattle.refute_check.proofs.ReachedLemmas.{IsTaken}
use Rattle.refute_check.proofs.reached.Reached.finish.Given as goal

abbrev pub invariant-loop-lit : goal.invariant-loop-lit
invariant-loop-lit l = (clause : Clause) → IsReached l.fn.self clause → IsTaken clause l.self l.kept.items

abbrev pub decreases-loop-lit : goal.decreases-loop-lit
decreases-loop-lit l = length l.self.listed.items
