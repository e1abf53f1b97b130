use Rattle.compact_tests.specs.Numbered.{AreNumberRows}
use Rattle.compact_tests.proofs.numbered.number_rows.Given as goal

abbrev pub invariant-loop-place : goal.invariant-loop-place
invariant-loop-place l = AreNumberRows l.numbers l.lane l.groups l.listed l.count l.place l.rows
