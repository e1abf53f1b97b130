use Rattle.suspect_scores.proofs.ChosenLemmas.{AreLeftTo}
use Rattle.suspect_scores.proofs.choosing.all_left.Given as goal

abbrev pub invariant-loop-line : goal.invariant-loop-line
invariant-loop-line l = AreLeftTo l.lines l.line l.left
