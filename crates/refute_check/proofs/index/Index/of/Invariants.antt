use Rattle.std.proofs.Common.{take}
use Rattle.refute_check.specs.Index.{IsIndexOf}
use Rattle.refute_check.proofs.index.Index.of.Given as goal

abbrev pub invariant-loop-at : goal.invariant-loop-at
invariant-loop-at l = IsIndexOf l.variables (take l.at l.pool.clauses) l.index.lists l.index.short.items
