use Rattle.pair_miter.proofs.Within.{miter_proper}
use Rattle.pair_miter.proofs.laws.miter_is_proper.Goals as goal

pub returns : goal.returns
returns c = λ circuit f g w. miter_proper circuit f g w
