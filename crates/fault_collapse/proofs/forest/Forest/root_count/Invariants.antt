use Rattle.std.proofs.Common.{◌≡◌, ◌-◌, length}
use Rattle.std.specs.Prelude.{filter, ◌==◌}
use Rattle.std.specs.List.{list_any, range_with_len}
use Rattle.fault_collapse.proofs.forest.Forest.root_count.Given as goal

abbrev pub invariant-loop-number : goal.invariant-loop-number
invariant-loop-number l = l.count ≡ length (filter (λ number. list_any (λ root. root == number) l.self.roots) (range_with_len 1 (l.number - 1)))
