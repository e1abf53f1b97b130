use Rattle.std.proofs.Common.{length}
use Rattle.refute_check.proofs.WalkLemmas.{GoesUp}
use Rattle.refute_check.proofs.tree.Walk.go_up.Given as goal

abbrev pub invariant-loop-source : goal.invariant-loop-source
invariant-loop-source l = GoesUp l.initial.self l.self

abbrev pub decreases-loop-source : goal.decreases-loop-source
decreases-loop-source l = length l.self.path.items
