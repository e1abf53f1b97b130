use Rattle.std.proofs.Common.{◌≡◌, ◌<◌, ℕ, length, get_or}
use Rattle.compact_tests.proofs.thinning.Thinning.new.Given as goal

abbrev pub invariant-loop-class : goal.invariant-loop-class
invariant-loop-class l = record {
  count : length l.earlier.items ≡ l.class;
  each : (k d : ℕ) → k < l.class → get_or l.earlier.items k d ≡ k;
}
