use Rattle.std.proofs.Common.{◌≡◌, ℕ, ◌<◌, length, slice_index}
use Rattle.samediff_dict.proofs.partition.keys_at.Given as goal

abbrev pub invariant-loop-place : goal.invariant-loop-place
invariant-loop-place l = record {
  long : length l.keys.items ≡ l.place-index;
  each : (k : ℕ) → k < l.place-index → slice_index l.keys.items k ≡ slice_index l.numbers (slice_index l.places k);
}
