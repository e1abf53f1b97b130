use Rattle.dict_rows.specs.AnswerTable.{answer_to}
use Rattle.suspect_scores.specs.Marks.{AreMarksBegun}
use Rattle.suspect_scores.proofs.marks.LogMarks.mark_all.Given as goal

abbrev pub invariant-loop-line : goal.invariant-loop-line
invariant-loop-line l = AreMarksBegun (λ k. answer_to l.free k 0) l.free.positions l.partial l.line l.self
