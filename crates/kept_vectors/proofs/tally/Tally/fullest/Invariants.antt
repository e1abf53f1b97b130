use Rattle.std.proofs.Common.{◌≡◌, ◌<◌, true}
use Rattle.net_model.specs.Answer.{bit_at}
use Rattle.word_sim.specs.declared.lanes.TheConstants.{LANES}
use Rattle.kept_vectors.proofs.tally.Tally.fullest.Given as goal

abbrev pub invariant-loop-lane : goal.invariant-loop-lane
invariant-loop-lane l = record {
  within : l.fullest < LANES;
  has : bit_at l.lanes l.fullest ≡ true;
}
