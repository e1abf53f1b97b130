use Rattle.answer_numbers.proofs.AddLemmas.{IsAddedTo}
use Rattle.answer_numbers.proofs.differences.PositionLists.add_place.Given as goal

abbrev pub invariant-loop-position : goal.invariant-loop-position
invariant-loop-position l = IsAddedTo l.sim l.place l.position-items l.position-index l.initial.self l.self
