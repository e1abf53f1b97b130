use Rattle.std.proofs.Common.{length, ◌-◌, ◌≤◌}
use Rattle.net_model.specs.Rows.{row_at}
use Rattle.dict_rows.specs.Rows.{AreRowsBegun}
use Rattle.samediff_dict.specs.Numbered.{baselines_at}
use Rattle.samediff_dict.proofs.setting.baselines.Given as goal

abbrev pub ghost-copy_range : goal.ghost-copy_range
ghost-copy_range g a = g.t

abbrev pub invariant-loop-first : goal.invariant-loop-first
invariant-loop-first g l = record {
  within : l.first ≤ length l.chosen;
  begun : AreRowsBegun (length l.chosen) g.t.positions l.first (row_at (baselines_at l.setting.classes.now g.t.rows l.chosen)) l.rows;
}

abbrev pub decreases-loop-first : goal.decreases-loop-first
decreases-loop-first g l = length l.chosen - l.first
