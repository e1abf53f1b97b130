use Rattle.learn_solver.proofs.MarkingSteps.{IsMarking}
use Rattle.learn_solver.proofs.marking.mark_clause.Given as goal

abbrev pub invariant-loop-lit : goal.invariant-loop-lit
invariant-loop-lit l = IsMarking l.trail.assignment l.initial.marks l.marks l.clause l.lit-index l.opened
