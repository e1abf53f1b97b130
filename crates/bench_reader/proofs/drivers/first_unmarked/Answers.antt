use Rattle.std.proofs.Common.{◌∙◌, sym}
use Rattle.bench_reader.proofs.NumberLemmas.{uses_so_far, first_use}
use Rattle.bench_reader.proofs.drivers.first_unmarked.Goals as goal

pub returns-in-Some : goal.returns-in-Some
returns-in-Some c =
    sym (first_use c.args.marks.now c.args.statements.now c.loop-statement.statement-index c.statement-item.result c.loop-statement-test.true c.statement-item.is c.loop-statement.invariant c.in-Some.word (sym c.in-Some.ensures))

pub loop-statement-preserved : goal.loop-statement-preserved
loop-statement-preserved c =
    uses_so_far c.args.marks.now c.args.statements.now c.loop-statement.statement-index c.statement-item.result c.loop-statement-test.true c.statement-item.is c.loop-statement.invariant ∙ sym c.in_default.ensures
