use Rattle.std.proofs.Common.{◌≡◌, [], length, take, get_or}
use Rattle.std.specs.Prelude.{filter}
use Rattle.net_model.specs.Answer.{bit_at}
use Rattle.word_sim.specs.declared.lanes.TheConstants.{LANES}
use Rattle.kept_vectors.proofs.waiting.Waiting.wait_at.Given as goal

abbrev pub invariant-loop-number : goal.invariant-loop-number
invariant-loop-number l = record {
  count : length l.self.lanes.items ≡ LANES;
  waits : get_or l.self.lanes.items l.lane [] ≡ filter (λ n. bit_at (get_or l.rows n []) l.lane) (take l.number-index l.numbers);
}
