use Rattle.ranked_diag.proofs.ObservingLemmas.{AreWordsSoFar}
use Rattle.ranked_diag.proofs.observing.observed_words.Given as goal

abbrev pub invariant-loop-at : goal.invariant-loop-at
invariant-loop-at l = AreWordsSoFar l.dict l.partial l.at l.words
