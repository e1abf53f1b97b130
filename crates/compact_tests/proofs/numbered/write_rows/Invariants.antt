use Rattle.compact_tests.specs.Numbered.{AreWritten}
use Rattle.compact_tests.proofs.numbered.write_rows.Given as goal

abbrev pub invariant-loop-member : goal.invariant-loop-member
invariant-loop-member l = AreWritten l.fn.rows l.rows l.members l.member-index l.number
