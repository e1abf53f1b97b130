use Rattle.net_model.specs.Rows.{row_at}
use Rattle.suspect_scores.proofs.ChosenLemmas.{IsWithoutTo}
use Rattle.suspect_scores.proofs.choosing.leave.Given as goal

abbrev pub invariant-loop-line : goal.invariant-loop-line
invariant-loop-line l = IsWithoutTo (row_at l.rows l.row) l.initial.left l.left l.line
