use Rattle.std.proofs.Common.{◌∙◌, [], refl, sym, arith}
use Rattle.net_model.specs.Rows.{row_at}
use Rattle.dict_rows.proofs.RowLemmas.{width_at, zeros_begun, rows_more, rows_all}
use Rattle.dict_rows.proofs.bits.copy_rows.Goals as goal

pub copy_row-requires-clause-source : goal.copy_row-requires-clause-source
copy_row-requires-clause-source c = omega (arith, c.rows-count.ensures)

pub copy_row-requires-clause-target : goal.copy_row-requires-clause-target
copy_row-requires-clause-target c = omega (arith, c.loop-row.invariant.are.count_is)

pub copy_row-requires-clause-width : goal.copy_row-requires-clause-width
copy_row-requires-clause-width c =
    width_at c.loop-row.invariant.are c.loop-row.row (omega arith) ∙ sym (c.width-width.ensures.each c.loop-row.row [] (omega (arith, c.rows-count.ensures)))

pub loop-row-init : goal.loop-row-init
loop-row-init c = zeros_begun c.rows-count.result c.width-width.result c.rows-count.result c.width-width.result (row_at c.args.rows.now) c.in_ok-copy.ensures refl refl

pub loop-row-preserved : goal.loop-row-preserved
loop-row-preserved c = rows_more c.loop-row.invariant c.copy_row.ensures

pub returns : goal.returns
returns c = rows_all c.args.rows.now c.loop-row.invariant (omega arith) (sym c.rows-count.ensures) (λ row h. refl)
