use Rattle.samediff_dict.specs.Moved.{AreSides}
use Rattle.samediff_dict.proofs.groups.PlaceGroups.sides.Given as goal

abbrev pub invariant-loop-place : goal.invariant-loop-place
invariant-loop-place l = AreSides l.self.group_of.items l.self.count l.numbers l.old l.new l.place l.sides.items
