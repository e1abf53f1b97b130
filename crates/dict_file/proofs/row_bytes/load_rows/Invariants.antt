use Rattle.dict_rows.specs.Rows.{AreRowsBegun}
use Rattle.dict_file.specs.Reading.{row_of}
use Rattle.dict_file.proofs.row_bytes.load_rows.Given as goal

abbrev pub invariant-loop-row : goal.invariant-loop-row
invariant-loop-row l = AreRowsBegun l.count l.rows.width l.row (row_of l.bytes l.rows) l.loaded
