use Rattle.std.proofs.Common.{length, get_or}
use Rattle.net_model.specs.Rows.{row_at}
use Rattle.dict_rows.specs.Rows.{AreRowsBegun}
use Rattle.dict_rows.proofs.bits.rows_at.Given as goal

abbrev pub invariant-loop-at : goal.invariant-loop-at
invariant-loop-at l = AreRowsBegun (length l.places) l.width l.at (λ at. row_at l.rows (get_or l.places at 0)) l.picked
