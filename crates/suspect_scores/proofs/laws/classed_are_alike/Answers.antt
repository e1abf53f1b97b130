use Rattle.suspect_scores.proofs.ClassedLemmas.{classed_are_alike}
use Rattle.suspect_scores.proofs.laws.classed_are_alike.Goals as goal

pub returns : goal.returns
returns c = classed_are_alike
