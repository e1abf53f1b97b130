use Rattle.std.proofs.Common.{◌≡◌, length, drop}
use Rattle.pair_miter.proofs.MarkSteps.{AreWithin}
use Rattle.pair_miter.proofs.tidier.clear_marks.Given as goal

abbrev pub invariant-loop-lit : goal.invariant-loop-lit
invariant-loop-lit l = record {
  places : length l.marks.items ≡ length l.initial.marks.items;
  within : AreWithin l.marks.items (drop l.lit-index l.clause);
}
