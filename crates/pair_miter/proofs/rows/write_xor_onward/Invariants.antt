use Rattle.std.proofs.Common.{◌≡◌, ◌+◌, ◌≤◌, ◌∷◌, drop, length}
use Rattle.pair_miter.specs.Marks.{AreHelpers}
use Rattle.clause_pool.specs.Proper.{IsVariable}
use Rattle.pair_miter.specs.Rows.{variables, xor_onward}
use Rattle.pair_miter.proofs.AddSteps.{Remains}
use Rattle.pair_miter.proofs.rows.write_xor_onward.Given as goal

abbrev pub invariant-loop-operand : goal.invariant-loop-operand
invariant-loop-operand l = record {
  same : l.tidier ≡ l.initial.tidier;
  before : l.before.variable ≤ l.initial.tidier;
  last : IsVariable l.initial.tidier l.last;
  helpers : AreHelpers l.initial.tidier l.part (2 + length (variables (drop l.operand-index l.operands)));
  remains : Remains l.initial.pool l.pool (xor_onward l.y l.helper l.fn.first (l.second ∷ variables l.operands)) (xor_onward l.y l.part l.before (l.last ∷ variables (drop l.operand-index l.operands)));
}
