use Rattle.kept_vectors.proofs.PartedLemmas.{splitters_kept}
use Rattle.kept_vectors.proofs.laws.splitters_are_kept.Goals as goal

pub returns : goal.returns
returns c = splitters_kept
