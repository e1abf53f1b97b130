use Rattle.result_file.proofs.ClosedLemmas.{closed_equal}
use Rattle.result_file.proofs.laws.closed_classes_are_equal.Goals as goal

pub returns : goal.returns
returns c = closed_equal
