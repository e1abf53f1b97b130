use Rattle.std.proofs.Common.{◌≡◌, ℕ, ◌<◌}
use Rattle.std.specs.Prelude.{length, not, nat_lt}
use Rattle.net_model.specs.Answer.{bit_at}
use Rattle.net_model.specs.Rows.{row_at}
use Rattle.suspect_scores.specs.Scored.{row_bits}
use Rattle.bridging_faults.proofs.simulating.passing_lines.Given as goal

abbrev pub invariant-loop-line : goal.invariant-loop-line
invariant-loop-line l = record {
  many : length l.passes ≡ length l.logged.marks.wrong;
  passes : (k : ℕ) → k < l.line → bit_at l.passes k ≡ not (nat_lt 0 (row_bits (row_at l.logged.marks.wrong k)));
}
