use Rattle.std.proofs.Common.{◌≡◌}
use Rattle.learn_solver.proofs.logs.log_of.Given as goal

abbrev pub invariant-loop-chain : goal.invariant-loop-chain
invariant-loop-chain l = l.log ≡ l.yielded
