use Rattle.learn_solver.proofs.MarkSteps.{IsMarkedFrom}
use Rattle.learn_solver.proofs.needed.needed.Given as goal

abbrev pub invariant-loop-at : goal.invariant-loop-at
invariant-loop-at l = IsMarkedFrom l.count l.chains l.last l.at l.marks.items
