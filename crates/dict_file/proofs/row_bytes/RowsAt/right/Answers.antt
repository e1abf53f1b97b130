use Rattle.std.proofs.Common.{below_more, arith}
use Rattle.net_model.proofs.Elements.{true_false}
use Rattle.dict_file.specs.Packing.{HasZeroPadding}
use Rattle.dict_file.specs.Reading.{row_start}
use Rattle.dict_file.proofs.BitLemmas.{fits_in, fits_tight}
use Rattle.dict_file.proofs.ReverseLemmas.{padding_told}
use Rattle.dict_file.proofs.PlaceLemmas.{right_to}
use Rattle.dict_file.proofs.row_bytes.RowsAt.right.Goals as goal

pub overflow_mul-padding : goal.overflow_mul-padding
overflow_mul-padding c = omega (arith, c.size.ensures, c.requires.narrow, fits_tight c.args.self.width)

pub overflow_sub-padding : goal.overflow_sub-padding
overflow_sub-padding c = omega (arith, c.size.ensures, fits_in c.args.self.width)

pub has_low_bit-requires : goal.has_low_bit-requires
has_low_bit-requires c = omega (arith, c.size.ensures, fits_tight c.args.self.width)

pub returns-then-has_low_bit : goal.returns-then-has_low_bit
returns-then-has_low_bit c =
    let told = padding_told c.args.bytes.now (row_start c.args.self c.loop-row.row) c.args.self.width c.last.result _ c.has_low_bit.result c.last.ensures (omega (arith, c.size.ensures)) c.if-padding-eq0.false c.has_low_bit.ensures in
    right_to c.args.bytes.now c.whole-whole.ensures c.loop-row.row c.loop-row-test.true c.loop-row.invariant (λ zeros. true_false c.has_low_bit.result c.if-has_low_bit.true (told.1 zeros))

pub loop-row-preserved : goal.loop-row-preserved
loop-row-preserved c =
    let told = padding_told c.args.bytes.now (row_start c.args.self c.loop-row.row) c.args.self.width c.last.result _ c.has_low_bit.result c.last.ensures (omega (arith, c.size.ensures)) c.if-padding-eq0.false c.has_low_bit.ensures in
    below_more (λ k. HasZeroPadding c.args.bytes.now (row_start c.args.self k) c.args.self.width) c.loop-row.row c.loop-row.invariant (told.0 c.if-has_low_bit.false)
