use Rattle.std.proofs.Common.{◌≡◌, filter}
use Rattle.std.specs.List.{range_with_len}
use Rattle.net_model.specs.ClassTable.{class_at}
use Rattle.compact_tests.specs.Sharing.{has_two}
use Rattle.compact_tests.proofs.sharing.sharing_numbers.Given as goal

abbrev pub invariant-loop-number : goal.invariant-loop-number
invariant-loop-number l = l.sharing.items ≡ filter (λ number. has_two l.groups (class_at l.groups number)) (range_with_len 0 l.number)
