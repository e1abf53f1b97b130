use Rattle.suspect_scores.specs.Scored.{meets_all}
use Rattle.suspect_scores.specs.Columns.{lane_score}
use Rattle.bridging_faults.proofs.SimulatedLemmas.{AreWordsNoted}
use Rattle.bridging_faults.proofs.simulating.note_fitting.Given as goal

abbrev pub invariant-loop-word : goal.invariant-loop-word
invariant-loop-word l = AreWordsNoted (λ lane. meets_all (lane_score l.columns l.sim l.first lane)) l.first l.count l.word l.initial.rows l.rows l.row
