use Rattle.solver_trail.proofs.Held.{sign_is_true, unset_is_not_true}
use Rattle.solver_trail.proofs.set_literals.SetLiterals.is_true.Goals as goal

pub returns-in-Some : goal.returns-in-Some
returns-in-Some c = sign_is_true c.args.self.now c.args.lit c.in-Some.value c.value_of.ensures.trail c.in-Some.ensures.value

pub returns-in-None : goal.returns-in-None
returns-in-None c = unset_is_not_true c.args.self.now c.args.lit c.in-None.ensures.value
