use Rattle.std.proofs.Common.{◌≡◌}
use Rattle.std.specs.Prelude.{map}
use Rattle.learn_solver.specs.Logs.{without_literal}
use Rattle.learn_solver.proofs.logs.bare_log.Given as goal

abbrev pub invariant-loop-chain : goal.invariant-loop-chain
invariant-loop-chain l = l.log ≡ map without_literal l.yielded
