use Rattle.compact_tests.specs.Numbered.{AreMemberRows}
use Rattle.compact_tests.proofs.numbered.number_members.Given as goal

abbrev pub invariant-loop-place : goal.invariant-loop-place
invariant-loop-place l = AreMemberRows l.numbers l.lane l.classes l.listed l.place l.rows
