use Rattle.std.proofs.Common.{◌*◌}
use Rattle.dict_rows.specs.AnswerTable.{answer_to}
use Rattle.dict_rows.specs.Rows.{IsRowBegun}
use Rattle.dict_rows.proofs.answer_table.AnswerTable.copy_answer.Given as goal

abbrev pub invariant-loop-word : goal.invariant-loop-word
invariant-loop-word l = IsRowBegun l.initial.rows l.rows l.row (l.word * 64) (answer_to l.self l.pattern l.number)
