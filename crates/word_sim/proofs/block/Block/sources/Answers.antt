use Rattle.word_sim.proofs.Columns.{is_block}
use Rattle.word_sim.proofs.block.Block.sources.Goals as goal

pub returns-clause-block : goal.returns-clause-block
returns-clause-block c = rw (← c.self.view_is) (is_block c.self.inside.rows.items c.self.inside.live c.self.invariant.few)
