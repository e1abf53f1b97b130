use Rattle.pair_miter.proofs.AddSteps.{writes_err, writes_left, first_fails}
use Rattle.pair_miter.proofs.RowParts.{case_parts}
use Rattle.pair_miter.proofs.rows.write_case.Goals as goal

pub returns-in_err-write_case-clause-written : goal.returns-in_err-write_case-clause-written
returns-in_err-write_case-clause-written c =
    let parts = case_parts c.args.y c.args.unless c.args.chooser.now c.args.chosen.now c.opposite.ensures in
    writes_err c.from_residual.result c.from_residual.ensures.0 (first_fails parts c.in_err-write_case.ensures.written)

pub returns-clause-written : goal.returns-clause-written
returns-clause-written c =
    let parts = case_parts c.args.y c.args.unless c.args.chooser.now c.args.chosen.now c.opposite.ensures in
    writes_left c.write_case-2.result c.write_case-2.new.pool parts c.in_ok-write_case.ensures.written c.write_case-2.ensures.written
