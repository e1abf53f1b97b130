use Rattle.suspect_scores.specs.Columns.{lane_score}
use Rattle.suspect_scores.proofs.PatternSimLemmas.{AreWordsNoted}
use Rattle.suspect_scores.proofs.explaining.note_words.Given as goal

abbrev pub invariant-loop-word : goal.invariant-loop-word
invariant-loop-word l = AreWordsNoted (lane_score l.columns l.sim l.first) l.first l.count l.word l.initial.rows l.rows l.row
