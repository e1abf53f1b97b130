use Rattle.std.specs.Prelude.{◌≡◌, length}
use Rattle.bridging_faults.proofs.ChosenLemmas.{AreSkipped}
use Rattle.bridging_faults.proofs.choosing.skipped_lines.Given as goal

abbrev pub invariant-loop-at : goal.invariant-loop-at
invariant-loop-at l = record {
  count : length l.skipped ≡ length l.rows.free;
  fails : AreSkipped l.rows.free l.at l.skipped;
}
