use Rattle.std.proofs.Common.{◌≡◌, ◌∷◌, ◌++◌, drop}
use Rattle.std.specs.Prelude.{not, []}
use Rattle.clause_pool.specs.Literal.{opposite}
use Rattle.pair_miter.specs.Rows.{variables, with_all, with_each, decided_rows}
use Rattle.pair_miter.proofs.AddSteps.{Remains}
use Rattle.pair_miter.proofs.rows.write_decided.Given as goal

abbrev pub invariant-loop-operand : goal.invariant-loop-operand
invariant-loop-operand l = record {
  same : l.tidier ≡ l.initial.tidier;
  remains : Remains l.initial.pool l.pool (decided_rows l.decides l.l l.operands) (with_each l.l (not l.decides) (variables (drop l.operand-index l.operands)) ++ with_all (opposite l.l) l.decides (variables l.operands) ∷ []);
}
