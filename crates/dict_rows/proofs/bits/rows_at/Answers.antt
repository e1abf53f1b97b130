use Rattle.std.proofs.Common.{◌∙◌, ◌<◌, [], length, get_or, map, refl, sym, arith}
use Rattle.std.proofs.lemmas.List.{get_or-map, length-map}
use Rattle.net_model.specs.Rows.{row_at}
use Rattle.dict_rows.proofs.RowLemmas.{width_at, zeros_begun, rows_more, rows_all}
use Rattle.dict_rows.proofs.bits.rows_at.Goals as goal

pub copy_row-requires-clause-target : goal.copy_row-requires-clause-target
copy_row-requires-clause-target c = omega (arith, c.loop-at.invariant.are.count_is)

pub copy_row-requires-clause-width : goal.copy_row-requires-clause-width
copy_row-requires-clause-width c =
    let here : c.loop-at.at < length c.args.places.now = omega arith in
    width_at c.loop-at.invariant.are c.loop-at.at here ∙ sym (c.width-width.ensures.each (get_or c.args.places.now c.loop-at.at 0) [] (c.requires c.loop-at.at 0 here))

pub loop-at-init : goal.loop-at-init
loop-at-init c =
    zeros_begun (length c.args.places.now) c.width-width.result (length c.args.places.now) c.width-width.result (λ at. row_at c.args.rows.now (get_or c.args.places.now at 0)) c.in_ok-picked.ensures refl refl

pub loop-at-preserved : goal.loop-at-preserved
loop-at-preserved c = rows_more c.loop-at.invariant c.copy_row.ensures

pub returns : goal.returns
returns c =
    let rows = c.args.rows.now in
    let places = c.args.places.now in
    rows_all (map (row_at rows) places) c.loop-at.invariant (omega arith) (length-map places (row_at rows)) (λ at h. get_or-map (row_at rows) places at 0 [] h)
