use Rattle.std.proofs.Common.{◌≡◌, ℕ, ◌<◌, length, get_or}
use Rattle.scan_cut.proofs.lines.lines_by_name.Given as goal

abbrev pub invariant-loop-line : goal.invariant-loop-line
invariant-loop-line l = record {
  whole : length l.lines.items ≡ l.count;
  each : (k : ℕ) → k < l.line → get_or l.lines.items (get_or l.line_names k 0) 0 ≡ k;
}
