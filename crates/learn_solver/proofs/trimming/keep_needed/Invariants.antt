use Rattle.std.proofs.Common.{◌≡◌, ◌+◌, length}
use Rattle.learn_solver.specs.Needed.{IsTrimmedTo, KeepsEnds}
use Rattle.learn_solver.proofs.trimming.keep_needed.Given as goal

abbrev pub invariant-loop-at : goal.invariant-loop-at
invariant-loop-at l = record {
  number : l.number ≡ l.count + length l.short;
  trimmed : IsTrimmedTo l.count l.chains l.marks l.at l.numbers.items l.short;
  ends : KeepsEnds l.count l.chains l.marks l.numbers.items l.short;
}
