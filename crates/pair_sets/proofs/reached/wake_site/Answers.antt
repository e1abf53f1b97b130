use Rattle.net_model.proofs.ReachedPositions.{stands}
use Rattle.pair_sets.proofs.reached.wake_site.Goals as goal

pub insert-requires : goal.insert-requires
insert-requires c =
    let at = c.in-Stuck-Position-default.at in
    let here = rw c.in-Stuck-Position-default.is at c.in-Stuck-Position-default.field-0-is in
    c.requires at (stands c.args.fault c.in-Stuck-Position-default.field-0 at c.in-Stuck-Position-default.field-1 c.in-Stuck-Position-default.is here)
