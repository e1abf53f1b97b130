use Rattle.answer_numbers.proofs.RootLemmas.{IsRepeated}
use Rattle.answer_numbers.proofs.trees.repeated.Given as goal

abbrev pub invariant-loop-time : goal.invariant-loop-time
invariant-loop-time l = IsRepeated l.row l._time l.all.items
