use Rattle.net_model.proofs.Errors.{on_error}
use Rattle.learn_solver.proofs.Searching.{learned_so_far}
use Rattle.learn_solver.proofs.sweep.sweep.Goals as goal

pub returns-in_err-lines-clause-err : goal.returns-in_err-lines-clause-err
returns-in_err-lines-clause-err c = on_error c.from_residual.result (learned_so_far c.args.miter.now c.args.conflicts c.args.search.now c.args.pool.now.clauses c.requires.search)
