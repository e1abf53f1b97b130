use Rattle.std.proofs.Common.{◌*◌}
use Rattle.dict_rows.specs.Rows.{IsRowTested}
use Rattle.dict_rows.proofs.bits.write_row.Given as goal

abbrev pub invariant-loop-word : goal.invariant-loop-word
invariant-loop-word g l = IsRowTested (goal.F-post g l.test) l.initial.rows l.rows l.row (l.word * 64)
