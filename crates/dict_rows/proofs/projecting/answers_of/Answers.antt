use Rattle.std.proofs.Common.{length, arith}
use Rattle.dict_rows.specs.AnswerTable.{answer_to}
use Rattle.dict_rows.specs.Entries.{answers_of}
use Rattle.dict_rows.proofs.RowLemmas.{zeros_begun, rows_more, rows_all}
use Rattle.dict_rows.proofs.EntryLemmas.{length-answers, answer_at}
use Rattle.dict_rows.proofs.projecting.answers_of.Goals as goal

pub loop-pattern-init : goal.loop-pattern-init
loop-pattern-init c =
    let t = c.args.table.now in
    zeros_begun c.patterns-patterns.result c.positions-positions.result (length t.rows) t.positions (λ pattern. answer_to t pattern c.args.number) c.in_ok-rows.ensures c.patterns-patterns.ensures.value c.positions-positions.ensures.value

pub loop-pattern-preserved : goal.loop-pattern-preserved
loop-pattern-preserved c = rows_more c.loop-pattern.invariant c.copy_answer.ensures

pub returns-clause-rows : goal.returns-clause-rows
returns-clause-rows c =
    let t = c.args.table.now in
    rows_all (answers_of t.rows c.args.number) c.loop-pattern.invariant (omega (arith, c.patterns-patterns.ensures.value)) (length-answers t c.args.number) (λ pattern h. answer_at t pattern c.args.number h)

pub returns-clause-shape : goal.returns-clause-shape
returns-clause-shape c = c.loop-pattern.invariant.are
