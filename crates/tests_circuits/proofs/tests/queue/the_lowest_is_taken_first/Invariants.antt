use Rattle.std.proofs.Common.{◌≡◌, length}
use Rattle.tests_circuits.proofs.tests.queue.the_lowest_is_taken_first.Given as goal

abbrev pub invariant-loop-number : goal.invariant-loop-number
invariant-loop-number g l = length l.queue ≡ 130
