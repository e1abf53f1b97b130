use Rattle.std.proofs.Common.{◌≡◌}
use Rattle.learn_solver.proofs.queue.Queue.renew_all.Given as goal

abbrev pub invariant-loop-pair : goal.invariant-loop-pair
invariant-loop-pair l = l.self ≡ l.initial.self
