use Rattle.std.proofs.Common.{◌*◌, ◌-◌}
use Rattle.net_model.specs.ClassTable.{class_count}
use Rattle.samediff_dict.specs.Chosen.{pairs_apart}
use Rattle.samediff_dict.specs.Copied.{AreEntries}
use Rattle.samediff_dict.specs.Numbered.{baselines_at}
use Rattle.samediff_dict.specs.GainTable.{HaveGains, alike_but}
use Rattle.samediff_dict.proofs.ChoiceLemmas.{IsReplacing}
use Rattle.samediff_dict.proofs.choosing.BaselineChoice.replace_all.Given as goal

abbrev pub invariant-replacing : goal.invariant-replacing
invariant-replacing g l = record {
  so_far : IsReplacing l.self.classes.now g.rows l.chosen;
  entries : AreEntries l.self.count l.self.patterns.now l.chosen l.entries;
  gains : HaveGains l.self.patterns.now (alike_but l.self.patterns.now l.chosen) l.table;
}

abbrev pub decreases-replacing : goal.decreases-replacing
decreases-replacing g l = class_count l.self.classes.now * class_count l.self.classes.now - pairs_apart l.self.classes.now g.rows (baselines_at l.self.classes.now g.rows l.chosen)

abbrev pub ghost-improvement : goal.ghost-improvement
ghost-improvement g a = g.rows

abbrev pub ghost-repair : goal.ghost-repair
ghost-repair g a = g.rows
