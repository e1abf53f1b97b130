use Rattle.answer_numbers.specs.NodeNumbers.{AreNumberedTo, done_below}
use Rattle.answer_numbers.proofs.node_numbers.NodeNumbers.add_place.Given as goal

abbrev pub invariant-loop-lane : goal.invariant-loop-lane
invariant-loop-lane l = AreNumberedTo l.trees (done_below l.place l.lane) l.self
