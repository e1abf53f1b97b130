use Rattle.dia_gen.proofs.GradedLemmas.{list_graded}
use Rattle.dia_gen.proofs.laws.list_is_graded.Goals as goal

pub returns : goal.returns
returns c = list_graded
