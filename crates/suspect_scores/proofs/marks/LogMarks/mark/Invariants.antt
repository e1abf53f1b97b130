use Rattle.suspect_scores.proofs.MarkLemmas.{IsMarkedTo}
use Rattle.suspect_scores.proofs.marks.LogMarks.mark.Given as goal

abbrev pub invariant-loop-at : goal.invariant-loop-at
invariant-loop-at l = IsMarkedTo l.initial.self l.self l.line l.at l.seen
