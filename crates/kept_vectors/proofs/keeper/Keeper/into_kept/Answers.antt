use Rattle.std.proofs.Common.{subst}
use Rattle.kept_vectors.specs.Keeper.{IsKeeper}
use Rattle.kept_vectors.proofs.keeper.Keeper.into_kept.Goals as goal

pub returns-clause-keeper : goal.returns-clause-keeper
returns-clause-keeper c = subst IsKeeper c.self.view_is c.self.invariant.keeper
