use Rattle.std.proofs.Common.{length}
use Rattle.dict_rows.specs.Rows.{AreRowsBegun}
use Rattle.dict_rows.specs.AnswerTable.{answer_to}
use Rattle.dict_rows.proofs.projecting.answers_of.Given as goal

abbrev pub invariant-loop-pattern : goal.invariant-loop-pattern
invariant-loop-pattern l = AreRowsBegun (length l.table.rows) l.table.positions l.pattern (λ pattern. answer_to l.table pattern l.number) l.rows
