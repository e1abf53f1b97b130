use Rattle.std.specs.Prelude.{◌≡◌}
use Rattle.net_model.specs.Answer.{bit_at}
use Rattle.net_model.specs.Rows.{row_at}
use Rattle.suspect_scores.specs.Scored.{count_to}
use Rattle.suspect_scores.proofs.failed.count_bits.Given as goal

abbrev pub invariant-loop-at : goal.invariant-loop-at
invariant-loop-at l = l.count ≡ count_to (bit_at (row_at l.rows l.row)) l.at
