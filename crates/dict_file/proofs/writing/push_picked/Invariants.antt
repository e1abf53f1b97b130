use Rattle.std.proofs.Common.{◌≡◌, ◌++◌, map, take}
use Rattle.net_model.specs.Rows.{row_at}
use Rattle.dict_file.specs.Spelling.{packed_rows}
use Rattle.dict_file.proofs.writing.push_picked.Given as goal

abbrev pub invariant-loop-place : goal.invariant-loop-place
invariant-loop-place l = l.bytes.items ≡ l.initial.bytes.items ++ packed_rows (map (row_at l.rows) (take l.place-index l.places))
