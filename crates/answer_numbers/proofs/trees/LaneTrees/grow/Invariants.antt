use Rattle.answer_numbers.specs.Trees.{AreGrown}
use Rattle.answer_numbers.proofs.ListedLemmas.{IsRest, list_done}
use Rattle.answer_numbers.proofs.trees.LaneTrees.grow.Given as goal

abbrev pub invariant-loop-item : goal.invariant-loop-item
invariant-loop-item l = record {
  rest : IsRest l.lists l.position l.number;
  grown : AreGrown l.position (list_done l.lists l.initial.self.lanes l.position l.number) l.initial.self l.self;
}

abbrev pub decreases-loop-item : goal.decreases-loop-item
decreases-loop-item l = l.number
