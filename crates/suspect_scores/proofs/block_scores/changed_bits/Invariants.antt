use Rattle.std.proofs.Common.{◌*◌, take}
use Rattle.suspect_scores.specs.Columns.{IsBitCount, is_changed_lane}
use Rattle.suspect_scores.proofs.block_scores.changed_bits.Given as goal

abbrev pub invariant-loop-position : goal.invariant-loop-position
invariant-loop-position l = IsBitCount (is_changed_lane l.rows l.sim l.line (l.word * 64)) (take l.position-index l.position-items) l.counted
