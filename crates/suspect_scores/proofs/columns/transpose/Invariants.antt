use Rattle.dict_rows.specs.Rows.{IsRowBegun}
use Rattle.suspect_scores.specs.Columns.{column_of}
use Rattle.suspect_scores.proofs.columns.transpose.Given as goal

abbrev pub invariant-loop-line : goal.invariant-loop-line
invariant-loop-line l = IsRowBegun l.initial.columns l.columns l.position l.line (column_of l.rows l.lines l.position)
