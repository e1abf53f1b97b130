use Rattle.std.proofs.Common.{slice_index}
use Rattle.samediff_dict.specs.PlaceGroups.{IsFirstMost}
use Rattle.samediff_dict.proofs.gains.place_of_most.Given as goal

abbrev pub invariant-loop-place : goal.invariant-loop-place
invariant-loop-place l = IsFirstMost (slice_index l.gains) l.place l.best
