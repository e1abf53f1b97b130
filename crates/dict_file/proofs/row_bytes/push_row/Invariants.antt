use Rattle.std.proofs.Common.{◌≡◌, ◌*◌, ◌++◌, map}
use Rattle.std.specs.List.{range_with_len}
use Rattle.net_model.specs.Rows.{row_at}
use Rattle.dict_file.specs.Packing.{byte_of}
use Rattle.dict_file.proofs.row_bytes.push_row.Given as goal

abbrev pub invariant-loop-at : goal.invariant-loop-at
invariant-loop-at l = l.bytes.items ≡ l.initial.bytes.items ++ map (λ k. byte_of (row_at l.rows l.row) (8 * k)) (range_with_len 0 l.at)
