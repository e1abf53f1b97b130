use Rattle.std.proofs.Common.{◌≡◌, ◌<◌, ℕ, [], List, length, get_or}
use Rattle.kept_vectors.proofs.waiting.Waiting.clear.Given as goal

abbrev pub invariant-loop-lane : goal.invariant-loop-lane
invariant-loop-lane l = record {
  count : length l.self.lanes.items ≡ length l.fn.self.lanes.items;
  empty : (k : ℕ) (d : List ℕ) → k < l.lane → get_or l.self.lanes.items k d ≡ [];
}
