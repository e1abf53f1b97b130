use Rattle.kept_vectors.proofs.PartedLemmas.{none_splits}
use Rattle.kept_vectors.proofs.laws.none_of_list_splits.Goals as goal

pub returns : goal.returns
returns c = none_splits
