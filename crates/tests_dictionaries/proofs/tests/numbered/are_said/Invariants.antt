use Rattle.std.proofs.Common.{◌≡◌}
use Rattle.tests_dictionaries.proofs.tests.numbered.are_said.Given as goal

abbrev pub invariant-loop-texts : goal.invariant-loop-texts
invariant-loop-texts l = record { circuit : l.numbers.circuit ≡ l.circuit; leads : l.numbers.leads ≡ l.leads }
