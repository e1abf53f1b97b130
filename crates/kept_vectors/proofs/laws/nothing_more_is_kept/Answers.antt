use Rattle.kept_vectors.proofs.PartedLemmas.{nothing_more}
use Rattle.kept_vectors.proofs.laws.nothing_more_is_kept.Goals as goal

pub returns : goal.returns
returns c = nothing_more
