use Rattle.std.proofs.Common.{◌≡◌, None, take}
use Rattle.std.specs.Prelude.{find, slice_index, ◌==◌}
use Rattle.adaptive_planner.proofs.class_numbers.ClassNumbers.number.Given as goal

abbrev pub invariant-loop-number : goal.invariant-loop-number
invariant-loop-number l = find (λ n. slice_index l.self.patterns.items n == l.pattern) (take l.number-index l.own) ≡ None
