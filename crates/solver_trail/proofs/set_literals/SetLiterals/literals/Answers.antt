use Rattle.std.proofs.Common.{subst}
use Rattle.solver_trail.specs.Assignment.{IsTrail}
use Rattle.solver_trail.proofs.Placed.{placed_trail}
use Rattle.solver_trail.proofs.set_literals.SetLiterals.literals.Goals as goal

pub returns-clause-trail : goal.returns-clause-trail
returns-clause-trail c = subst IsTrail c.self.view_is (placed_trail c.self.invariant.placed c.self.inside.level c.self.invariant.levels)
