use Rattle.adaptive_planner.specs.CircuitNumbers.{AreLaneNumbers}
use Rattle.adaptive_planner.proofs.circuit_numbers.add_lane.Given as goal

abbrev pub invariant-loop-place : goal.invariant-loop-place
invariant-loop-place l = AreLaneNumbers l.source l.lane l.place l.found
