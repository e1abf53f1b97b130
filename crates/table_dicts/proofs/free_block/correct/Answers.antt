use Rattle.std.proofs.Common.{arith}
use Rattle.table_dicts.proofs.ColumnLemmas.{column_none, column_more, column_stands}
use Rattle.table_dicts.proofs.free_block.correct.Goals as goal

pub returns-then-not-differ : goal.returns-then-not-differ
returns-then-not-differ c = column_stands c.args.stands c.args.column c.xor.result c.any-differ.result c.args.count c.args.table.now c.args.number c.args.first c.args.position c.if-not-differ.true c.any-differ.ensures c.xor.ensures c.requires.few c.requires.stands

pub loop-lane-init : goal.loop-lane-init
loop-lane-init c = column_none c.args.column c.args.table.now c.args.number c.args.first c.args.position

pub set-requires-clause-pattern : goal.set-requires-clause-pattern
set-requires-clause-pattern c = omega (arith, c.loop-lane.invariant.sizes.patterns_are, c.requires.within)

pub set-requires-clause-number : goal.set-requires-clause-number
set-requires-clause-number c = omega (arith, c.loop-lane.invariant.sizes.numbers_are, c.requires.number)

pub set-requires-clause-position : goal.set-requires-clause-position
set-requires-clause-position c = omega (arith, c.loop-lane.invariant.sizes.positions_are, c.requires.position)

pub loop-lane-preserved : goal.loop-lane-preserved
loop-lane-preserved c = column_more c.loop-lane.invariant c.set.ensures c.get.ensures.value (omega (arith, c.requires.within)) c.requires.number c.requires.position
