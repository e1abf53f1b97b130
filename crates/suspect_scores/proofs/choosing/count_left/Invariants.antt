use Rattle.std.specs.Prelude.{◌≡◌, ◌&&◌}
use Rattle.net_model.specs.Answer.{bit_at}
use Rattle.net_model.specs.Rows.{row_at}
use Rattle.suspect_scores.specs.Scored.{count_to}
use Rattle.suspect_scores.proofs.choosing.count_left.Given as goal

abbrev pub invariant-loop-line : goal.invariant-loop-line
invariant-loop-line l = l.count ≡ count_to (λ k. bit_at l.left k && bit_at (row_at l.rows l.row) k) l.line
