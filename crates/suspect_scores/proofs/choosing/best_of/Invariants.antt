use Rattle.suspect_scores.proofs.ChosenLemmas.{IsBestTo}
use Rattle.suspect_scores.proofs.choosing.best_of.Given as goal

abbrev pub invariant-loop-place : goal.invariant-loop-place
invariant-loop-place l = IsBestTo l.rows l.numbers l.left l.place l.best
