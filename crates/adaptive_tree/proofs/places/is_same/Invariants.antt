use Rattle.text_fields.proofs.BitLemmas.{AreBitsSoFar}
use Rattle.adaptive_tree.proofs.places.is_same.Given as goal

abbrev pub invariant-loop-at : goal.invariant-loop-at
invariant-loop-at l = AreBitsSoFar l.digits l.at l.bits
