use Rattle.std.proofs.Common.{sym}
use Rattle.word_sim.proofs.Columns.{length-columns, is_block}
use Rattle.word_sim.proofs.block.Block.live.Goals as goal

pub returns-clause-value : goal.returns-clause-value
returns-clause-value c = rw (← c.self.view_is) (sym (length-columns c.self.inside.rows.items c.self.inside.live))

pub returns-clause-block : goal.returns-clause-block
returns-clause-block c = rw (← c.self.view_is) (is_block c.self.inside.rows.items c.self.inside.live c.self.invariant.few)
