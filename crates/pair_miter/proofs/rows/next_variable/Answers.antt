use Rattle.std.proofs.Common.{refl}
use Rattle.pair_miter.proofs.rows.next_variable.Goals as goal

pub loop-at-init : goal.loop-at-init
loop-at-init c = refl
