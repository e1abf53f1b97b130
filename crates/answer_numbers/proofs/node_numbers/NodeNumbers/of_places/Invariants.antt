use Rattle.answer_numbers.specs.NodeNumbers.{AreNumberedTo}
use Rattle.answer_numbers.proofs.node_numbers.NodeNumbers.of_places.Given as goal

abbrev pub invariant-loop-place : goal.invariant-loop-place
invariant-loop-place l = AreNumberedTo l.trees (λ lane. l.place) l.numbers
