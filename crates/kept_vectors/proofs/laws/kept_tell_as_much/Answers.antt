use Rattle.kept_vectors.proofs.PartedLemmas.{kept_parted}
use Rattle.kept_vectors.proofs.laws.kept_tell_as_much.Goals as goal

pub returns : goal.returns
returns c = kept_parted
