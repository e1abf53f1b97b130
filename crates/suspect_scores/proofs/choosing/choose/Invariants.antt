use Rattle.net_model.specs.Answer.{bit_at}
use Rattle.std.specs.Prelude.{length}
use Rattle.suspect_scores.specs.Scored.{count_to}
use Rattle.suspect_scores.proofs.ChosenLemmas.{IsChoosing}
use Rattle.suspect_scores.proofs.choosing.choose.Given as goal

abbrev pub invariant-loop-best : goal.invariant-loop-best
invariant-loop-best l = IsChoosing l.rows l.numbers l.lines l.left l.best l.choices.items

abbrev pub decreases-loop-best : goal.decreases-loop-best
decreases-loop-best l = count_to (bit_at l.left) (length l.left)
