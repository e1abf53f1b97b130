use Rattle.table_dicts.specs.Blocks.{IsColumnSet}
use Rattle.table_dicts.proofs.free_block.correct.Given as goal

abbrev pub invariant-loop-lane : goal.invariant-loop-lane
invariant-loop-lane l = IsColumnSet l.column l.lane l.initial.table l.table l.number l.first l.position
