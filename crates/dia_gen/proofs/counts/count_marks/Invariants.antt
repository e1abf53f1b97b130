use Rattle.dia_gen.specs.Marked.{AreMarkedBelow}
use Rattle.dia_gen.proofs.counts.count_marks.Given as goal

abbrev pub invariant-loop-number : goal.invariant-loop-number
invariant-loop-number l = AreMarkedBelow l.classes l.marks l.number l.counts
