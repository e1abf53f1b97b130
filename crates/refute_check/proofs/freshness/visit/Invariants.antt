use Rattle.refute_check.proofs.SettledLemmas.{HasSeen}
use Rattle.refute_check.proofs.freshness.visit.Given as goal

abbrev pub invariant-loop-number : goal.invariant-loop-number
invariant-loop-number l = HasSeen l.pool.clauses l.at l.numbers l.from l.number-index l.initial.held l.held l.looked
