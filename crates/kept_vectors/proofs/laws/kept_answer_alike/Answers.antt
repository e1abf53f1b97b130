use Rattle.kept_vectors.proofs.PartedLemmas.{kept_alike}
use Rattle.kept_vectors.proofs.laws.kept_answer_alike.Goals as goal

pub returns : goal.returns
returns c = kept_alike
