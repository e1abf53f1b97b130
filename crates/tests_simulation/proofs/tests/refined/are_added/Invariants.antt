use Rattle.std.proofs.Common.{◌≡◌, length}
use Rattle.tests_simulation.proofs.tests.refined.are_added.Given as goal

abbrev pub invariant-loop-ones : goal.invariant-loop-ones
invariant-loop-ones l = length l.classes.class_of ≡ l.numbers
