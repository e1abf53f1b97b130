use Rattle.std.proofs.Common.{take}
use Rattle.adaptive_planner.specs.Parting.{ArePartsTo}
use Rattle.adaptive_planner.proofs.parting.part.Given as goal

abbrev pub invariant-loop-at : goal.invariant-loop-at
invariant-loop-at l = ArePartsTo l.numbers l.pattern (take l.at l.set) l.branches.items l.slots
