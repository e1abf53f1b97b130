use Rattle.samediff_dict.proofs.ChoiceLemmas.{IsGreedyTo}
use Rattle.samediff_dict.proofs.choosing.BaselineChoice.greedy.Given as goal

abbrev pub invariant-loop-pattern : goal.invariant-loop-pattern
invariant-loop-pattern g l = IsGreedyTo l.self.classes.now g.rows l.chosen.items l.pattern l.before

abbrev pub ghost-cut_most : goal.ghost-cut_most
ghost-cut_most g a = g.rows
