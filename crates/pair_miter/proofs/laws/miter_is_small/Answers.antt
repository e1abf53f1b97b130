use Rattle.pair_miter.proofs.Bounds.{few_clauses, few_variables_of}
use Rattle.pair_miter.proofs.laws.miter_is_small.Goals as goal

pub returns : goal.returns
returns c = λ circuit f g w. (few_clauses circuit f g w, few_variables_of circuit f g w)
