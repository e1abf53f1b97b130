use Rattle.std.proofs.Common.{◌-◌}
use Rattle.samediff_dict.proofs.descending.Descent.+descend.Given as goal

abbrev pub decreases-descend : goal.decreases-descend
decreases-descend l = l.end - l.first
