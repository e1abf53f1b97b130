use Rattle.std.proofs.Common.{◌≡◌, ◌<◌, ℕ, [], false, length, get_or}
use Rattle.net_model.specs.Answer.{bit_at}
use Rattle.word_sim.specs.declared.lanes.TheConstants.{LANES}
use Rattle.kept_vectors.proofs.standing.clear_rows.Given as goal

abbrev pub invariant-loop-number : goal.invariant-loop-number
invariant-loop-number l = record {
  count : length l.rows ≡ length l.fn.rows;
  none : (n lane : ℕ) → n < l.number → lane < LANES → bit_at (get_or l.rows n []) lane ≡ false;
}
