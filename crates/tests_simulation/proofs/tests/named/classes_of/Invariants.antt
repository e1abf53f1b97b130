use Rattle.std.proofs.Common.{◌≡◌, length}
use Rattle.tests_simulation.proofs.tests.named.classes_of.Given as goal

abbrev pub invariant-loop-vector : goal.invariant-loop-vector
invariant-loop-vector l = length l.classes.class_of ≡ 11
