use Rattle.std.proofs.Common.{length, get_or}
use Rattle.dict_rows.specs.AnswerTable.{answer_to}
use Rattle.dict_rows.specs.Rows.{AreRowsBegun}
use Rattle.adaptive_planner.proofs.table_numbers.copy_answers.Given as goal

abbrev pub invariant-loop-class : goal.invariant-loop-class
invariant-loop-class l = AreRowsBegun (length l.leads) l.table.positions l.class (λ class. answer_to l.table l.pattern (get_or l.leads class 0)) l.rows
