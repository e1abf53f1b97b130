use Rattle.std.proofs.Common.{◌↔◌, IsTrue}
use Rattle.compact_tests.specs.Earlier.{RepeatsWithin, AreMarkedTo}
use Rattle.compact_tests.proofs.earlier.mark.Given as goal

abbrev pub invariant-loop-number : goal.invariant-loop-number
invariant-loop-number l = record {
  again : IsTrue l.again ↔ RepeatsWithin l.group l.earlier l.number-index;
  marked : AreMarkedTo l.group l.earlier l.number-index l.marks;
}
