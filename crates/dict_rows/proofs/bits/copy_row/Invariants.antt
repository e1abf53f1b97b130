use Rattle.std.proofs.Common.{◌*◌}
use Rattle.net_model.specs.Rows.{row_at}
use Rattle.dict_rows.specs.Rows.{IsRowBegun}
use Rattle.dict_rows.proofs.bits.copy_row.Given as goal

abbrev pub invariant-loop-word : goal.invariant-loop-word
invariant-loop-word l = IsRowBegun l.initial.to l.to l.target (l.word * 64) (row_at l.from l.source)
