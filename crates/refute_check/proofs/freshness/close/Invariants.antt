use Rattle.std.proofs.Common.{◌-◌, length}
use Rattle.refute_check.proofs.SettledLemmas.{HasGone}
use Rattle.refute_check.proofs.freshness.close.Given as goal

abbrev pub invariant-loop-head : goal.invariant-loop-head
invariant-loop-head l = HasGone l.pool.clauses l.at l.head l.fn.held l.held l.looked

abbrev pub decreases-loop-head : goal.decreases-loop-head
decreases-loop-head l = length l.fn.held.values.items - l.head
