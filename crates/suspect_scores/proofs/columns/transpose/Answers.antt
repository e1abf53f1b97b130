use Rattle.std.proofs.Common.{◌∙◌, sym, arith}
use Rattle.suspect_scores.specs.Columns.{column_of}
use Rattle.dict_rows.proofs.RowLemmas.{begun_none, begun_more, begun_all}
use Rattle.suspect_scores.proofs.ColumnLemmas.{column_long, column_bit}
use Rattle.suspect_scores.proofs.columns.transpose.Goals as goal

pub loop-line-init : goal.loop-line-init
loop-line-init c = begun_none c.args.position (column_of c.args.rows.now c.args.lines c.args.position)

pub set_bit-requires-clause-row : goal.set_bit-requires-clause-row
set_bit-requires-clause-row c = omega (arith, c.loop-line.invariant.shape.count, c.requires.column)

pub set_bit-requires-clause-at : goal.set_bit-requires-clause-at
set_bit-requires-clause-at c = omega (arith, c.loop-line.invariant.shape.widths c.args.position, c.requires.wide)

pub loop-line-preserved : goal.loop-line-preserved
loop-line-preserved c = begun_more c.loop-line.invariant c.set_bit.ensures (c.get.ensures ∙ sym (column_bit c.args.rows.now c.args.lines c.args.position c.loop-line.line c.loop-line-test.true))

pub returns : goal.returns
returns c =
    let long = column_long c.args.rows.now c.args.lines c.args.position in
    begun_all c.loop-line.invariant (c.requires.wide ∙ sym long) (omega (arith, long, c.loop-line-test.false))
