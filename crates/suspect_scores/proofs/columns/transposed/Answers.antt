use Rattle.std.proofs.Common.{refl, arith}
use Rattle.dict_rows.proofs.RowLemmas.{zeros_begun, rows_more, width_at}
use Rattle.suspect_scores.proofs.ColumnLemmas.{all_transposed}
use Rattle.suspect_scores.proofs.columns.transposed.Goals as goal

pub loop-position-init : goal.loop-position-init
loop-position-init c = zeros_begun _ _ _ _ _ c.in_ok-columns.ensures refl refl

pub transpose-requires-clause-rows : goal.transpose-requires-clause-rows
transpose-requires-clause-rows c = λ line h. omega (arith, width_at c.requires line h, c.loop-position-test.true)

pub transpose-requires-clause-lines : goal.transpose-requires-clause-lines
transpose-requires-clause-lines c = omega (arith, c.requires.count_is)

pub transpose-requires-clause-column : goal.transpose-requires-clause-column
transpose-requires-clause-column c = omega (arith, c.loop-position.invariant.are.count_is, c.loop-position-test.true)

pub transpose-requires-clause-wide : goal.transpose-requires-clause-wide
transpose-requires-clause-wide c = width_at c.loop-position.invariant.are c.loop-position.position c.loop-position-test.true

pub loop-position-preserved : goal.loop-position-preserved
loop-position-preserved c = rows_more c.loop-position.invariant c.transpose.ensures

pub returns : goal.returns
returns c = all_transposed c.args.rows.now c.args.lines c.args.positions c.loop-position.position c.loop-position.columns c.loop-position.invariant (omega (arith, c.loop-position-test.false))
