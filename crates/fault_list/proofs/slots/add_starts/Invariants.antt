use Rattle.std.proofs.Common.{◌≡◌, ◌+◌, map}
use Rattle.std.specs.List.{range_with_len}
use Rattle.fault_list.specs.Slots.{site_row_start}
use Rattle.fault_list.proofs.slots.add_starts.Given as goal

abbrev pub invariant-loop-line : goal.invariant-loop-line
invariant-loop-line l = record {
  next : l.next ≡ site_row_start l.circuit (l.line + 1);
  starts : l.starts.items ≡ map (site_row_start l.circuit) (range_with_len 0 (l.line + 2));
}
