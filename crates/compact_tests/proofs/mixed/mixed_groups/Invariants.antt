use Rattle.std.proofs.Common.{◌≡◌, filter}
use Rattle.std.specs.List.{range_with_len}
use Rattle.compact_tests.specs.Mixed.{exceeds_class}
use Rattle.compact_tests.proofs.mixed.mixed_groups.Given as goal

abbrev pub invariant-loop-group : goal.invariant-loop-group
invariant-loop-group l = l.mixed.items ≡ filter (exceeds_class l.classes l.groups) (range_with_len 0 l.group)
