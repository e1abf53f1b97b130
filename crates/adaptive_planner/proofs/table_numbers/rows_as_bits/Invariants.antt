use Rattle.std.proofs.Common.{◌≡◌, take}
use Rattle.adaptive_planner.proofs.table_numbers.rows_as_bits.Given as goal

abbrev pub invariant-loop-row : goal.invariant-loop-row
invariant-loop-row l = l.all.items ≡ take l.row l.rows
