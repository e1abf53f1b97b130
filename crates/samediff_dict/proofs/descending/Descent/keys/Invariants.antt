use Rattle.std.proofs.Common.{◌≡◌, ℕ, ◌<◌, length, slice_index}
use Rattle.samediff_dict.specs.Descent.{IsKeyIn}
use Rattle.samediff_dict.proofs.descending.Descent.keys.Given as goal

abbrev pub invariant-loop-place : goal.invariant-loop-place
invariant-loop-place l = record {
  long : length l.keys.items ≡ l.place;
  each : (k : ℕ) → k < l.place → IsKeyIn l.self l.first l.end (slice_index l.classes k) (slice_index l.keys.items k);
}
