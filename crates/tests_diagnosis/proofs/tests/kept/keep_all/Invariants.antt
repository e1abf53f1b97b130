use Rattle.std.proofs.Common.{◌≡◌}
use Rattle.tests_diagnosis.proofs.tests.kept.keep_all.Given as goal

abbrev pub invariant-loop-text : goal.invariant-loop-text
invariant-loop-text l = l.keeper.circuit ≡ l.circuit
