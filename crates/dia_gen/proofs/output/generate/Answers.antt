use Rattle.dia_gen.proofs.NothingWritten.{no_call, no_line}
use Rattle.dia_gen.proofs.output.generate.Goals as goal

pub returns-in_err-subject-clause-call : goal.returns-in_err-subject-clause-call
returns-in_err-subject-clause-call g c = no_call c.from_residual.result (g.S.Shelf.state c.args.shelf.now) c.from_residual.ensures.1

pub returns-in_err-subject-clause-err : goal.returns-in_err-subject-clause-err
returns-in_err-subject-clause-err g c = no_line c.from_residual.result c.args.circuit.now (g.S.Shelf.state c.args.shelf.now) c.from_residual.ensures.1

pub returns-in_err-levels-clause-call : goal.returns-in_err-levels-clause-call
returns-in_err-levels-clause-call g c = no_call c.from_residual-in_err-levels.result (g.S.Shelf.state c.args.shelf.now) c.from_residual-in_err-levels.ensures.1

pub returns-in_err-levels-clause-err : goal.returns-in_err-levels-clause-err
returns-in_err-levels-clause-err g c = no_line c.from_residual-in_err-levels.result c.args.circuit.now (g.S.Shelf.state c.args.shelf.now) c.from_residual-in_err-levels.ensures.1
