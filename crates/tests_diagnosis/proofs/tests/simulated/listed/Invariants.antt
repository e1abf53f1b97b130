use Rattle.std.proofs.Common.{◌≡◌, length, All}
use Rattle.tests_diagnosis.proofs.tests.simulated.listed.Given as goal

abbrev pub invariant-loop-text : goal.invariant-loop-text
invariant-loop-text l = All (λ v. length v ≡ l.circuit.sources) l.vectors
