use Rattle.std.proofs.Common.{◌≡◌}
use Rattle.refute_check.proofs.IndexLemmas.{IsAdded}
use Rattle.refute_check.proofs.index.Index.add.Given as goal

abbrev pub invariant-loop-lit : goal.invariant-loop-lit
invariant-loop-lit l = record {
  added : IsAdded l.number l.clause l.lit-index l.fn.self.lists l.self.lists;
  short : l.self.short ≡ l.fn.self.short;
}
