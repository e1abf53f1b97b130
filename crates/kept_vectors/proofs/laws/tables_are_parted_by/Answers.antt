use Rattle.kept_vectors.proofs.PartedLemmas.{tables_parted}
use Rattle.kept_vectors.proofs.laws.tables_are_parted_by.Goals as goal

pub returns : goal.returns
returns c = tables_parted
