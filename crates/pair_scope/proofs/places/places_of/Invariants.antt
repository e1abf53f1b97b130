use Rattle.std.proofs.Common.{◌≡◌, ◌<◌, ℕ, length, get_or}
use Rattle.pair_scope.proofs.places.places_of.Given as goal

abbrev pub invariant-loop-place : goal.invariant-loop-place
invariant-loop-place l = record {
  whole : length l.places.items ≡ length l.lines;
  each : (place : ℕ) → place < l.place → get_or l.places.items (get_or l.lines place 0) 0 ≡ place;
}
