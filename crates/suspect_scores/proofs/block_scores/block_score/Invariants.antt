use Rattle.std.proofs.Common.{◌≡◌, ◌*◌, min}
use Rattle.suspect_scores.specs.Columns.{lane_score, suspect_to}
use Rattle.suspect_scores.proofs.block_scores.block_score.Given as goal

abbrev pub invariant-loop-word : goal.invariant-loop-word
invariant-loop-word l = l.block ≡ suspect_to (lane_score l.columns l.sim l.first) l.number (min (l.word * 64) l.count)
