use Rattle.std.proofs.Common.{[], length, get_or}
use Rattle.net_model.specs.Answer.{bit_at}
use Rattle.word_sim.proofs.Written.{AreSet}
use Rattle.word_sim.proofs.good_sim.place.Given as goal

abbrev pub invariant-loop-source : goal.invariant-loop-source
invariant-loop-source l = AreSet (λ k lane. bit_at (get_or l.block.vectors lane []) k) (length l.block.vectors) l.rows l.source
