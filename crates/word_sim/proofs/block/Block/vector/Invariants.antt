use Rattle.std.proofs.Common.{◌≡◌, ◌<◌, ℕ, [], length, get_or}
use Rattle.net_model.specs.Answer.{bit_at}
use Rattle.word_sim.proofs.block.Block.vector.Given as goal

abbrev pub invariant-loop-source : goal.invariant-loop-source
invariant-loop-source l = record {
  wide : length l.v ≡ length l.self-inside.rows.items;
  set : (k : ℕ) → k < l.source → bit_at l.v k ≡ bit_at (get_or l.self-inside.rows.items k []) l.lane;
}
