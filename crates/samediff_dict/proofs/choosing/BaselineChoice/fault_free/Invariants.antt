use Rattle.samediff_dict.proofs.ChoiceLemmas.{AreFreeTo}
use Rattle.samediff_dict.proofs.choosing.BaselineChoice.fault_free.Given as goal

abbrev pub invariant-loop-pattern : goal.invariant-loop-pattern
invariant-loop-pattern g l = AreFreeTo l.self.classes.now g.rows l.chosen.items l.pattern
