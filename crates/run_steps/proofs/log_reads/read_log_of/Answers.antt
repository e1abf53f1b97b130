use Rattle.run_steps.proofs.log_reads.read_log_of.Goals as goal

pub returns-clause-lines : goal.returns-clause-lines
returns-clause-lines g c = rw c.positions.ensures.value at c.read_partial_log.ensures.lines

pub returns-clause-ok : goal.returns-clause-ok
returns-clause-ok g c = rw c.positions.ensures.value at c.read_partial_log.ensures.ok

pub returns-clause-err : goal.returns-clause-err
returns-clause-err g c = rw c.positions.ensures.value at c.read_partial_log.ensures.err
