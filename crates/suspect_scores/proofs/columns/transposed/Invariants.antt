use Rattle.dict_rows.specs.Rows.{AreRowsBegun}
use Rattle.suspect_scores.specs.Columns.{column_of}
use Rattle.suspect_scores.proofs.columns.transposed.Given as goal

abbrev pub invariant-loop-position : goal.invariant-loop-position
invariant-loop-position l = AreRowsBegun l.positions l.lines l.position (column_of l.rows l.lines) l.columns
