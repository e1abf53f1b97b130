use Rattle.std.proofs.Common.{◌<◌, ℕ}
use Rattle.std.specs.Prelude.{IsSome}
use Rattle.member_marks.specs.Given.{given_mark}
use Rattle.member_marks.proofs.marks.Marks.next_open.Given as goal

abbrev pub invariant-loop-number : goal.invariant-loop-number
invariant-loop-number l = (n : ℕ) → n < l.number → IsSome (given_mark l.classes l.self n)
