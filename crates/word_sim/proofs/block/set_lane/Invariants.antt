use Rattle.word_sim.proofs.Written.{IsWritten}
use Rattle.word_sim.proofs.block.set_lane.Given as goal

abbrev pub invariant-loop-source : goal.invariant-loop-source
invariant-loop-source l = IsWritten l.initial.rows l.rows l.lane l.v l.source
