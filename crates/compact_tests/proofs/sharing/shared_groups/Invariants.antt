use Rattle.std.proofs.Common.{◌≡◌, filter}
use Rattle.std.specs.List.{range_with_len}
use Rattle.compact_tests.specs.Sharing.{has_two}
use Rattle.compact_tests.proofs.sharing.shared_groups.Given as goal

abbrev pub invariant-loop-group : goal.invariant-loop-group
invariant-loop-group l = l.shared.items ≡ filter (has_two l.groups) (range_with_len 0 l.group)
