use Rattle.std.proofs.Common.{◌*◌, take}
use Rattle.suspect_scores.specs.Columns.{IsBitCount, is_same_lane}
use Rattle.suspect_scores.proofs.block_scores.unchanged_bits.Given as goal

abbrev pub invariant-loop-position : goal.invariant-loop-position
invariant-loop-position l = IsBitCount (is_same_lane l.columns.wrong l.sim l.line (l.word * 64) l.lanes) (take l.position-index l.position-items) l.counted
