use Rattle.std.proofs.Common.{◌∙◌, ◌<◌, refl, arith}
use Rattle.dict_rows.proofs.RowLemmas.{zeros_begun, width_at, rows_more, rows_all}
use Rattle.dict_file.specs.Places.{first_rows}
use Rattle.dict_file.specs.Reading.{row_of}
use Rattle.dict_file.proofs.FieldLemmas.{length-rows_of, get_or-rows_of}
use Rattle.dict_file.proofs.PlaceLemmas.{no_bits, start_below}
use Rattle.dict_file.proofs.row_bytes.load_rows.Goals as goal

pub returns-then-rows-eq0 : goal.returns-then-rows-eq0
returns-then-rows-eq0 c = c.in_ok-loaded.ensures ∙ no_bits c.args.bytes.now c.args.rows c.args.count c.if-rows-eq0.true

pub loop-row-init : goal.loop-row-init
loop-row-init c = zeros_begun c.args.count c.args.rows.width c.args.count c.args.rows.width (row_of c.args.bytes.now c.args.rows) c.in_ok-loaded.ensures refl refl

pub start-start-requires : goal.start-start-requires
start-start-requires c = omega (arith, start_below c.args.rows c.loop-row.row c.args.count c.loop-row-test.true, c.requires.whole, c.requires.placed.short)

pub load_row-requires-clause-whole : goal.load_row-requires-clause-whole
load_row-requires-clause-whole c =
    rw (width_at c.loop-row.invariant.are c.loop-row.row c.loop-row-test.true)
    (omega (arith, c.start-start.ensures, start_below c.args.rows c.loop-row.row c.args.count c.loop-row-test.true, c.requires.whole))

pub loop-row-preserved : goal.loop-row-preserved
loop-row-preserved c =
    let below : c.loop-row.row < c.args.count = omega arith in
    let set = rw (width_at c.loop-row.invariant.are c.loop-row.row below, c.start-start.ensures) at c.load_row.ensures in
    rows_more c.loop-row.invariant set

pub returns : goal.returns
returns c =
    let bytes = c.args.bytes.now in
    let rows = c.args.rows in
    rows_all (first_rows bytes rows c.args.count) c.loop-row.invariant (omega arith) (length-rows_of bytes rows c.args.count) (λ row h. get_or-rows_of bytes rows c.args.count row h)
