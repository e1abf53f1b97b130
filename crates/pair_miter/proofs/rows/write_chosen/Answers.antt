use Rattle.std.proofs.Common.{◌∙◌}
use Rattle.pair_miter.proofs.AddSteps.{writes_err, writes_left, first_fails}
use Rattle.pair_miter.proofs.RowParts.{chosen_parts}
use Rattle.pair_miter.proofs.rows.write_chosen.Goals as goal

pub returns-in_err-write_case-clause-written : goal.returns-in_err-write_case-clause-written
returns-in_err-write_case-clause-written c =
    let parts = chosen_parts c.args.y c.args.operands.now c.requires.three c.index-operands-0.is c.index-operands-1.is c.index-operands-2.is in
    writes_err c.from_residual.result c.from_residual.ensures.0 (first_fails parts c.in_err-write_case.ensures.written)

pub returns-clause-written : goal.returns-clause-written
returns-clause-written c =
    let parts = chosen_parts c.args.y c.args.operands.now c.requires.three c.index-operands-0.is c.index-operands-1.is c.index-operands-2.is in
    writes_left c.write_case-2.result c.write_case-2.new.pool parts c.in_ok-write_case.ensures.written c.write_case-2.ensures.written

pub returns-in_err-write_case-clause-variables : goal.returns-in_err-write_case-clause-variables
returns-in_err-write_case-clause-variables c = c.in_err-write_case.ensures.variables

pub returns-clause-variables : goal.returns-clause-variables
returns-clause-variables c = c.write_case-2.ensures.variables ∙ c.in_ok-write_case.ensures.variables
