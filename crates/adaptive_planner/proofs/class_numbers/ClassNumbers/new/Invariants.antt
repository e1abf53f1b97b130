use Rattle.std.proofs.Common.{◌≡◌, [], replicate}
use Rattle.adaptive_planner.proofs.class_numbers.ClassNumbers.new.Given as goal

abbrev pub invariant-loop : goal.invariant-loop
invariant-loop l = l.own.items ≡ replicate l.counter []
