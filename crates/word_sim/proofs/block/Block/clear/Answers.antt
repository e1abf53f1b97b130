use Rattle.std.proofs.Common.{length}
use Rattle.word_sim.specs.Block.{block_with}
use Rattle.word_sim.proofs.Columns.{columns_none}
use Rattle.word_sim.proofs.block.Block.clear.Goals as goal

pub returns : goal.returns
returns c = rw (← c.self.view_is) (λ i. block_with (length c.self.inside.rows.items) (columns_none c.self.inside.rows.items i))
