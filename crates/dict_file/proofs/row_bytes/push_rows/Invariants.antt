use Rattle.std.proofs.Common.{◌≡◌, ◌++◌, take}
use Rattle.dict_file.specs.Spelling.{packed_rows}
use Rattle.dict_file.proofs.row_bytes.push_rows.Given as goal

abbrev pub invariant-loop-row : goal.invariant-loop-row
invariant-loop-row l = l.bytes.items ≡ l.initial.bytes.items ++ packed_rows (take l.row l.rows)
