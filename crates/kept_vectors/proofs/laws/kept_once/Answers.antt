use Rattle.kept_vectors.proofs.PartedLemmas.{kept_settled}
use Rattle.kept_vectors.proofs.laws.kept_once.Goals as goal

pub returns : goal.returns
returns c = kept_settled
