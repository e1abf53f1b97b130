use Rattle.std.proofs.Common.{arith, refl, ◌∙◌, sym}
use Rattle.word_sim.specs.BlockFields.{column}
use Rattle.word_sim.proofs.Columns.{length-column, column_at, column_is}
use Rattle.word_sim.proofs.Written.{written_none, written_more}
use Rattle.word_sim.proofs.block.set_lane.Goals as goal

pub loop-source-init : goal.loop-source-init
loop-source-init c = written_none c.args.rows.now c.args.lane c.args.v.now

pub loop-source-preserved : goal.loop-source-preserved
loop-source-preserved c =
    written_more c.args.rows.now c.loop-source.rows c.args.lane c.args.v.now c.loop-source.source c.index-rows-source.result c.with.result
    c.loop-source.invariant (omega arith) c.index-rows-source.is (c.with.ensures.same ∙ c.get.ensures) c.with.ensures.others

pub returns-clause-written : goal.returns-clause-written
returns-clause-written c =
    column_is c.loop-source.rows c.args.lane c.args.v.now (omega arith) (λ k h. c.loop-source.invariant.written k c.args.lane (omega arith) c.requires.lane refl)

pub returns-clause-others : goal.returns-clause-others
returns-clause-others c = λ other h ne.
    column_is c.loop-source.rows other (column c.args.rows.now other) (length-column c.args.rows.now other ∙ sym c.loop-source.auto.rows)
    (λ k l. c.loop-source.invariant.others k other h ne ∙ sym (column_at c.args.rows.now other k))
