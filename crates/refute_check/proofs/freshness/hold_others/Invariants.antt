use Rattle.std.proofs.Common.{◌≡◌, length}
use Rattle.refute_check.specs.Assignment.{IsAssignment}
use Rattle.refute_check.proofs.ClosureLemmas.{AreOthersFalseBefore}
use Rattle.refute_check.proofs.freshness.hold_others.Given as goal

abbrev pub invariant-loop-lit : goal.invariant-loop-lit
invariant-loop-lit l = record {
  assignment : IsAssignment l.held;
  size : length l.held.values.items ≡ length l.initial.held.values.items;
  others : AreOthersFalseBefore l.clause l.at l.lit-index l.held.values.items;
}
