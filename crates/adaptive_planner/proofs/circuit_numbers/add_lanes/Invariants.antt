use Rattle.adaptive_planner.specs.CircuitNumbers.{AddsLanes}
use Rattle.adaptive_planner.proofs.circuit_numbers.add_lanes.Given as goal

abbrev pub invariant-loop-lane : goal.invariant-loop-lane
invariant-loop-lane l = AddsLanes l.source l.lane l.initial.numbers l.numbers
