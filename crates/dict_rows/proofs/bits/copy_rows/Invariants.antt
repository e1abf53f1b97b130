use Rattle.net_model.specs.Rows.{row_at}
use Rattle.dict_rows.specs.Rows.{AreRowsBegun}
use Rattle.dict_rows.proofs.bits.copy_rows.Given as goal

abbrev pub invariant-loop-row : goal.invariant-loop-row
invariant-loop-row l = AreRowsBegun l.count l.width l.row (row_at l.rows) l.copy
