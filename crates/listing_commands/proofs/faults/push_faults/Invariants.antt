use Rattle.std.proofs.Common.{◌≡◌, ◌++◌}
use Rattle.std.specs.List.{flat_map, range_with_len}
use Rattle.listing_commands.specs.Faults.{fault_line}
use Rattle.listing_commands.proofs.faults.push_faults.Given as goal

abbrev pub invariant-loop-number : goal.invariant-loop-number
invariant-loop-number l = l.text.items ≡ l.initial.text.items ++ flat_map (fault_line l.design l.forest) (range_with_len 0 l.number)
