use Rattle.std.proofs.Common.{arith}
use Rattle.learn_solver.proofs.descent.descend.Goals as goal

pub down-smaller : goal.down-smaller
down-smaller c = let g = c.go_down-found.ensures.grows in omega (arith, g.longer, g.few, g.variables)
