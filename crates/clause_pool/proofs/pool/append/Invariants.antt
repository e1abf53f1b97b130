use Rattle.std.proofs.Common.{◌≡◌, ◌++◌, take, vec_capacity}
use Rattle.clause_pool.proofs.pool.append.Given as goal

abbrev pub invariant-loop-lit : goal.invariant-loop-lit
invariant-loop-lit l = record {
  items : l.region.items ≡ l.initial.region.items ++ take l.lit-index l.clause;
  capacity : vec_capacity l.region ≡ vec_capacity l.initial.region;
}
