use Rattle.dia_gen.proofs.WritingLemmas.{nothing_broken}
use Rattle.dia_gen.proofs.output.write_result.Goals as goal

pub returns-in-Err-clause-err : goal.returns-in-Err-clause-err
returns-in-Err-clause-err g c = rw c.requires.1 (nothing_broken _)
