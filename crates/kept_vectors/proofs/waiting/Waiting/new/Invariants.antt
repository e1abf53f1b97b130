use Rattle.std.proofs.Common.{◌≡◌, length}
use Rattle.kept_vectors.proofs.waiting.Waiting.new.Given as goal

abbrev pub invariant-loop-lane : goal.invariant-loop-lane
invariant-loop-lane l = length l.lanes.items ≡ l._lane
