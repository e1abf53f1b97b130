use Rattle.fault_heads.proofs.Found.{FoundBefore}
use Rattle.fault_heads.proofs.destination.only_place.Given as goal

abbrev pub invariant-loop-at : goal.invariant-loop-at
invariant-loop-at l = FoundBefore l.lines l.line l.at l.found
