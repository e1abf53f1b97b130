use Rattle.dict_rows.specs.AnswerTable.{IsNumberSet}
use Rattle.table_dicts.specs.Blocks.{IsKeptBit}
use Rattle.table_dicts.proofs.ColumnLemmas.{IsEither}
use Rattle.table_dicts.proofs.free_block.FreeBlock.write.Given as goal

abbrev pub invariant-loop-position : goal.invariant-loop-position
invariant-loop-position l =
    IsNumberSet (IsEither (λ lane. IsKeptBit l.kept l.pattern_sim.good.circuit l.pattern_sim.block.vectors lane l.number) l.self.lanes.items l.position) l.count l.fn.table l.table l.place l.first l.fn.table.positions
