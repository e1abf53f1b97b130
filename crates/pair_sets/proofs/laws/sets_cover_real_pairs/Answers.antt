use Rattle.pair_sets.proofs.Coverage.{covered}
use Rattle.pair_sets.proofs.laws.sets_cover_real_pairs.Goals as goal

pub returns : goal.returns
returns c = λ circuit f g cube v x y sets line w inside a b are. covered circuit f g cube v x y sets inside w a b are line
