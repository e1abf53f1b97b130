use Rattle.answer_numbers.specs.Growing.{AreWholeTrees}
use Rattle.answer_numbers.proofs.trees.LaneTrees.grown.Given as goal

abbrev pub invariant-loop-position : goal.invariant-loop-position
invariant-loop-position l = AreWholeTrees l.lists l.lanes l.places l.position l.trees
