use Rattle.std.proofs.Common.{◌≡◌}
use Rattle.dia_check.proofs.checker.listed.Given as goal

abbrev pub invariant-loop-v : goal.invariant-loop-v
invariant-loop-v l = l.listed ≡ l.yielded
