use Rattle.std.proofs.Common.{◌<◌, length, ap, arith}
use Rattle.kept_vectors.proofs.StandingLemmas.{asked_row, rows_asked}
use Rattle.kept_vectors.proofs.standing.find_rows.Goals as goal

pub loop-number-preserved : goal.loop-number-preserved
loop-number-preserved c =
    let good = c.args.good.now in
    let t = c.args.classes.now in
    let asked = c.args.differences.now.numbers.items in
    let roots = c.args.differences.now.units.roots.now in
    let items = c.as_slice-number-items.ensures.value in
    let k = c.loop-number.number-index in
    let row = c.row_of.result in
    let h : k < length asked = omega (arith, c.loop-number-test.true, ap length items) in
    let one = c.requires.asked.mates k 0 h in
    let own = c.row_of.ensures in
    rw items (asked_row good roots t asked k h row c.loop-number.invariant (omega (arith, one.0, c.loop-number.invariant.count)) (rw items at own))

pub returns : goal.returns
returns c =
    let asked = c.args.differences.now.numbers.items in
    rows_asked c.args.good.now c.args.differences.now.units.roots.now c.args.classes.now asked c.loop-number.number-index (omega (arith, c.loop-number-test.false, ap length c.as_slice-number-items.ensures.value)) c.loop-number.invariant
