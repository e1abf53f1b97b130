use Rattle.learn_solver.proofs.Attaching.{IsAttaching}
use Rattle.learn_solver.proofs.search.attach_all.Given as goal

abbrev pub invariant-loop-at : goal.invariant-loop-at
invariant-loop-at l = IsAttaching l.trail l.pool.clauses l.variables l.at
