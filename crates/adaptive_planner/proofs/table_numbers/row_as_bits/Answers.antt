use Rattle.std.proofs.Common.{[], false, get_or, arith}
use Rattle.std.proofs.lemmas.List.{ext_get_or}
use Rattle.adaptive_planner.proofs.table_numbers.row_as_bits.Goals as goal

pub returns : goal.returns
returns c =
    let so_far = c.loop-at.invariant in
    ext_get_or false c.loop-at.bits (get_or c.args.rows.now c.args.row []) so_far.long (λ k h. so_far.done k (omega (arith, h, so_far.long, c.width-width.ensures.each c.args.row [] c.requires, c.loop-at-test.false)))
