use Rattle.net_model.specs.Answer.{bit_at}
use Rattle.bridging_faults.proofs.SimulatedLemmas.{AreWordsNoted}
use Rattle.bridging_faults.proofs.simulating.note_lanes.Given as goal

abbrev pub invariant-loop-word : goal.invariant-loop-word
invariant-loop-word l = AreWordsNoted (bit_at l.lanes) l.first l.count l.word l.initial.rows l.rows l.row
