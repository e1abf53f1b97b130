use Rattle.std.proofs.Common.{[], map, arith}
use Rattle.std.proofs.lemmas.List.{get_or-map, length-map}
use Rattle.dict_rows.specs.AnswerTable.{answer_to}
use Rattle.dict_rows.proofs.RowLemmas.{rows_all, rows_more}
use Rattle.adaptive_planner.proofs.table_numbers.copy_answers.Goals as goal

pub returns-clause-rows : goal.returns-clause-rows
returns-clause-rows c =
    let answer = answer_to c.args.table.now c.args.pattern in
    rows_all (map answer c.args.leads.now) c.loop-class.invariant (omega arith) (length-map c.args.leads.now answer) (λ row h. get_or-map answer c.args.leads.now row 0 [] h)

pub loop-class-preserved : goal.loop-class-preserved
loop-class-preserved c = rows_more c.loop-class.invariant c.copy_answer.ensures
