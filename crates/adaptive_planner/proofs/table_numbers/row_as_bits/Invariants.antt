use Rattle.std.proofs.Common.{◌≡◌, ℕ, ◌<◌, [], false, length, get_or}
use Rattle.adaptive_planner.proofs.table_numbers.row_as_bits.Given as goal

abbrev pub invariant-loop-at : goal.invariant-loop-at
invariant-loop-at l = record {
  long : length l.bits ≡ length (get_or l.rows l.row []);
  done : (k : ℕ) → k < l.at → get_or l.bits k false ≡ get_or (get_or l.rows l.row []) k false;
}
