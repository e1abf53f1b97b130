use Rattle.suspect_scores.proofs.ColumnLemmas.{positions_step}
use Rattle.suspect_scores.proofs.columns.wrong_positions.Goals as goal

pub loop-position-preserved : goal.loop-position-preserved
loop-position-preserved c = positions_step c.args.wrong.now c.loop-position.position c.loop-position.listed.items c.push_if.new.listed.items c.has_some.result c.loop-position.invariant c.in_ok-push_if.ensures c.has_some.ensures
