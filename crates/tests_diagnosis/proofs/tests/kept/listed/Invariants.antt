use Rattle.std.proofs.Common.{◌≡◌}
use Rattle.tests_diagnosis.proofs.tests.kept.listed.Given as goal

abbrev pub invariant-loop-v : goal.invariant-loop-v
invariant-loop-v l = l.list ≡ l.yielded
