use Rattle.suspect_scores.specs.Columns.{lane_score}
use Rattle.suspect_scores.proofs.PatternSimLemmas.{words_none}
use Rattle.suspect_scores.proofs.explaining.note_words.Goals as goal

pub loop-word-init : goal.loop-word-init
loop-word-init c = words_none (lane_score c.args.columns.now c.args.sim.now c.args.first) c.args.first c.args.count c.args.rows.now c.args.row
