use Rattle.std.proofs.Common.{◌≡◌}
use Rattle.tests_dictionaries.proofs.tests.circuits.keep_all.Given as goal

abbrev pub invariant-loop-text : goal.invariant-loop-text
invariant-loop-text l = l.keeper.circuit ≡ l.circuit
