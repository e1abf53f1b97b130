use Rattle.dict_file.proofs.PlaceLemmas.{rows_found, all_read}
use Rattle.dict_file.proofs.row_bytes.read_rows.Goals as goal

pub returns-clause-read : goal.returns-clause-read
returns-clause-read c = all_read _ c.right-right.ensures c.if-right-rows.false (rows_found c.right-right.ensures c.if-right-rows.false) c.in_ok-read.ensures c.start-end.ensures
