use Rattle.std.proofs.Common.{◌≡◌}
use Rattle.tests_diagnosis.proofs.tests.simulated.push_texts.Given as goal

abbrev pub invariant-loop-number : goal.invariant-loop-number
invariant-loop-number l = l.texts.vectors ≡ l.vectors
