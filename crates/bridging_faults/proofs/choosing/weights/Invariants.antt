use Rattle.std.specs.Prelude.{◌≡◌, length}
use Rattle.bridging_faults.proofs.choosing.weights.Given as goal

abbrev pub invariant-loop-at : goal.invariant-loop-at
invariant-loop-at l = length l.weights.items ≡ l.at
