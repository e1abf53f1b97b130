use Rattle.std.proofs.Common.{◌≡◌, ℕ, ◌<◌, length}
use Rattle.std.specs.Prelude.{◌==◌}
use Rattle.net_model.specs.Answer.{bit_at}
use Rattle.bridging_faults.proofs.cones.mark_alone.Given as goal

abbrev pub invariant-loop-other : goal.invariant-loop-other
invariant-loop-other l = record {
  whole : length l.marks.items ≡ length l.fn.marks.items;
  each : (n : ℕ) → n < l.other → bit_at l.marks.items n ≡ (l.line == n);
}
