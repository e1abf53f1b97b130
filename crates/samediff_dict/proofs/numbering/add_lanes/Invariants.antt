use Rattle.samediff_dict.specs.Numbered.{AreLanesAdded}
use Rattle.samediff_dict.proofs.numbering.add_lanes.Given as goal

abbrev pub invariant-loop-lane : goal.invariant-loop-lane
invariant-loop-lane l = AreLanesAdded l.numbers l.lane l.initial.patterns.items l.patterns.items
