use Rattle.samediff_dict.specs.Numbered.{baselines_at}
use Rattle.samediff_dict.proofs.SearchLemmas.{NoneBefore}
use Rattle.samediff_dict.proofs.choosing.BaselineChoice.improvement.Given as goal

abbrev pub invariant-loop-pattern : goal.invariant-loop-pattern
invariant-loop-pattern g l = NoneBefore l.self.classes.now g.rows (baselines_at l.self.classes.now g.rows l.chosen) l.pattern
