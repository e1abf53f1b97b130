use Rattle.std.proofs.Common.{◌≡◌, ◌<◌, ℕ, length, get_or}
use Rattle.std.specs.Prelude.{Bool, None, Some}
use Rattle.net_model.specs.Answer.{bit_at}
use Rattle.distinguish_search.proofs.pair_search.vector_of.Given as goal

abbrev pub invariant-loop-source : goal.invariant-loop-source
invariant-loop-source l = record {
  wide : length l.v ≡ length l.cube;
  set : (k : ℕ) (bit : Bool) → k < l.source → get_or l.cube k None ≡ Some bit → bit_at l.v k ≡ bit;
}
