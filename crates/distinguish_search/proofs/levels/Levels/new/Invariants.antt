use Rattle.distinguish_search.proofs.LevelLemmas.{LevelsSoFar}
use Rattle.distinguish_search.proofs.levels.Levels.new.Given as goal

abbrev pub invariant-loop-line : goal.invariant-loop-line
invariant-loop-line l = LevelsSoFar l.circuit l.line-items l.line-index l.levels.items
