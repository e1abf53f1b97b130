use Rattle.table_dicts.proofs.ColumnLemmas.{HasLanesBegun}
use Rattle.table_dicts.proofs.free_block.FreeBlock.new.Given as goal

abbrev pub invariant-loop-position : goal.invariant-loop-position
invariant-loop-position l = HasLanesBegun l.width l.lanes.items l.answers l.position
