use Rattle.std.specs.Prelude.{◌≡◌, take}
use Rattle.net_model.specs.Rows.{row_at}
use Rattle.ranked_diag.specs.Seen.{differing_bits}
use Rattle.ranked_diag.proofs.observing.some_differs.Given as goal

abbrev pub invariant-loop-at : goal.invariant-loop-at
invariant-loop-at l = differing_bits (take l.at l.seen) (row_at l.rows l.row) ≡ 0
