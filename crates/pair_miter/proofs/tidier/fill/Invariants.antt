use Rattle.std.proofs.Common.{◌≡◌, ◌++◌, drop}
use Rattle.std.specs.Prelude.{map}
use Rattle.pair_miter.specs.Rows.{variables, signed_literal, with_all}
use Rattle.pair_miter.proofs.tidier.fill.Given as goal

abbrev pub invariant-loop-operand : goal.invariant-loop-operand
invariant-loop-operand l = l.row.items ++ map (signed_literal l.positive) (variables (drop l.operand-index l.operands)) ≡ with_all l.fn.first l.positive (variables l.operands)
