use Rattle.std.proofs.Common.{◌<◌, ℕ}
use Rattle.dict_file.specs.Packing.{HasZeroPadding}
use Rattle.dict_file.specs.Reading.{row_start}
use Rattle.dict_file.proofs.row_bytes.RowsAt.right.Given as goal

abbrev pub invariant-loop-row : goal.invariant-loop-row
invariant-loop-row l = (k : ℕ) → k < l.row → HasZeroPadding l.bytes (row_start l.self k) l.self.width
