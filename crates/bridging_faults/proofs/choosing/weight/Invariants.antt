use Rattle.std.specs.Prelude.{◌≡◌}
use Rattle.net_model.specs.Rows.{row_bit}
use Rattle.suspect_scores.specs.Scored.{count_to}
use Rattle.bridging_faults.proofs.choosing.weight.Given as goal

abbrev pub invariant-loop-line : goal.invariant-loop-line
invariant-loop-line l = l.count ≡ count_to (λ line. row_bit l.rows.turned line l.at) l.line
