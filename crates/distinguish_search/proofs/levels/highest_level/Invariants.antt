use Rattle.std.proofs.Common.{◌≡◌, take}
use Rattle.distinguish_search.specs.Levels.{highest_level}
use Rattle.distinguish_search.proofs.levels.highest_level.Given as goal

abbrev pub invariant-loop-line : goal.invariant-loop-line
invariant-loop-line l = l.highest ≡ highest_level l.levels (take l.line-index l.lines)
