use Rattle.refute_check.proofs.HeldLemmas.{IsSoFar}
use Rattle.refute_check.proofs.assignment.Assignment.look.Given as goal

abbrev pub invariant-loop-place : goal.invariant-loop-place
invariant-loop-place l = IsSoFar l.self.values.items l.clause l.place l.unit
