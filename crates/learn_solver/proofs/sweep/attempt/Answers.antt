use Rattle.pair_miter.proofs.PlaceSteps.{grows_none}
use Rattle.learn_solver.proofs.sweep.attempt.Goals as goal

pub returns-then-idle-ge-IDLE_LIMIT-clause-grows : goal.returns-then-idle-ge-IDLE_LIMIT-clause-grows
returns-then-idle-ge-IDLE_LIMIT-clause-grows c = grows_none c.args.pool.now
