use Rattle.std.proofs.Common.{◌≡◌, length}
use Rattle.tests_circuits.proofs.tests.listing.lettered.Given as goal

abbrev pub invariant-loop-letter : goal.invariant-loop-letter
invariant-loop-letter l = length l.names ≡ l.letter-index
