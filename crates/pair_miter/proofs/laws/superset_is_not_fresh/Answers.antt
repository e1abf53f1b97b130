use Rattle.pair_miter.proofs.TidyAndFresh.{superset_not_fresh}
use Rattle.pair_miter.proofs.laws.superset_is_not_fresh.Goals as goal

pub returns : goal.returns
returns c = superset_not_fresh
