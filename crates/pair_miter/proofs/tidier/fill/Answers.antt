use Rattle.std.proofs.Common.{◌-◌, ◌^◌, ◌∙◌, ◌++◌, ap, sym}
use Rattle.std.specs.Prelude.{map}
use Rattle.std.proofs.lemmas.List.{append-nil}
use Rattle.std.proofs.lemmas.Result.{IfOk-from_err}
use Rattle.pair_miter.specs.Rows.{variables, signed_literal, with_all}
use Rattle.pair_miter.proofs.OperandSteps.{operand_within, row_more, variables_end}
use Rattle.pair_miter.proofs.tidier.fill.Goals as goal

pub push_literal-requires : goal.push_literal-requires
push_literal-requires c = operand_within c.args.operands.now c.loop-operand.operand-index c.operand-item.result c.loop-operand-test.true c.operand-item.is (2 ^ 31 - 1) c.requires

pub loop-operand-preserved : goal.loop-operand-preserved
loop-operand-preserved c =
    let operands = c.args.operands.now in
    let whole = with_all c.args.first c.args.positive (variables operands) in
    row_more operands c.loop-operand.operand-index c.operand-item.result c.loop-operand-test.true c.operand-item.is c.args.positive c.loop-operand.row.items c.push_literal.new.row.items whole
    c.in_ok-push_literal.ensures c.loop-operand.invariant

pub returns-in_err-push : goal.returns-in_err-push
returns-in_err-push c = IfOk-from_err c.from_residual.result _ c.from_residual.ensures.0

pub returns-in_err-push_literal : goal.returns-in_err-push_literal
returns-in_err-push_literal c = IfOk-from_err c.from_residual-in_err-push_literal.result _ c.from_residual-in_err-push_literal.ensures.0

pub returns : goal.returns
returns c =
    let row = c.loop-operand.row.items in
    let none = variables_end c.args.operands.now c.loop-operand.operand-index c.loop-operand-test.false in
    sym (append-nil row) ∙ (ap (λ xs. row ++ map (signed_literal c.args.positive) xs) (sym none) ∙ c.loop-operand.invariant)
