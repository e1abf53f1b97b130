use Rattle.std.proofs.Common.{◌≡◌, drop}
use Rattle.pair_miter.specs.Rows.{variables}
use Rattle.pair_miter.proofs.rows.next_variable.Given as goal

abbrev pub invariant-loop-at : goal.invariant-loop-at
invariant-loop-at l = variables l.operands ≡ variables (drop l.at l.operands)
