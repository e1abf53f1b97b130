use Rattle.std.proofs.Common.{length}
use Rattle.dict_rows.specs.Rows.{AreRowsBegun}
use Rattle.dict_rows.specs.Entries.{same_diff_entry}
use Rattle.dict_rows.proofs.projecting.differences.Given as goal

abbrev pub invariant-loop-number : goal.invariant-loop-number
invariant-loop-number l = AreRowsBegun l.table.numbers (length l.table.rows) l.number (same_diff_entry l.table.rows l.baselines) l.rows
