use Rattle.std.proofs.Common.{◌-◌, ◌+◌, length}
use Rattle.clause_pool.specs.LiteralCode.{code_of}
use Rattle.clause_pool.specs.Clauses.{Clause}
use Rattle.refute_check.specs.Reached.{IsReached}
use Rattle.refute_check.proofs.reached.Reached.make_place.Given as goal

abbrev pub invariant-loop-lit : goal.invariant-loop-lit
invariant-loop-lit l = (clause : Clause) → IsReached l.initial.self clause → IsReached l.self clause

abbrev pub decreases-loop-lit : goal.decreases-loop-lit
decreases-loop-lit l = code_of l.lit + 1 - length l.self.marks.items
