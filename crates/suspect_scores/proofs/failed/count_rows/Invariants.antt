use Rattle.std.specs.Prelude.{◌≡◌, nat_lt}
use Rattle.net_model.specs.Rows.{row_at}
use Rattle.suspect_scores.specs.Scored.{count_to, row_bits}
use Rattle.suspect_scores.proofs.failed.count_rows.Given as goal

abbrev pub invariant-loop-row : goal.invariant-loop-row
invariant-loop-row l = l.count ≡ count_to (λ row. nat_lt 0 (row_bits (row_at l.rows row))) l.row
