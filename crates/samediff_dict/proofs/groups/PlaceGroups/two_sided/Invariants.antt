use Rattle.std.proofs.Common.{◌≡◌}
use Rattle.std.specs.Prelude.{filter}
use Rattle.std.specs.List.{range_with_len}
use Rattle.samediff_dict.specs.Moved.{has_both_sides}
use Rattle.samediff_dict.proofs.groups.PlaceGroups.two_sided.Given as goal

abbrev pub invariant-loop-place : goal.invariant-loop-place
invariant-loop-place l = l.places.items ≡ filter (has_both_sides l.self.group_of.items l.sides) (range_with_len 0 l.place)
