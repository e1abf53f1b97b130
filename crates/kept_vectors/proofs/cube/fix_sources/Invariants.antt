use Rattle.std.proofs.Common.{◌≡◌, ◌<◌, ℕ, [], true, false, length, get_or}
use Rattle.net_model.specs.Answer.{bit_at}
use Rattle.kept_vectors.proofs.CubeLemmas.{IsOfCubeBelow}
use Rattle.kept_vectors.proofs.cube.fix_sources.Given as goal

abbrev pub invariant-loop-source : goal.invariant-loop-source
invariant-loop-source l = record {
  sources : l.block.sources ≡ l.fn.block.sources;
  count : length l.block.vectors ≡ length l.fn.block.vectors;
  fixed : (lane : ℕ) → lane < length l.fn.block.vectors → bit_at l.lanes lane ≡ true → IsOfCubeBelow l.cube l.source (get_or l.block.vectors lane []);
  others : (lane : ℕ) → lane < length l.fn.block.vectors → bit_at l.lanes lane ≡ false → get_or l.block.vectors lane [] ≡ get_or l.fn.block.vectors lane [];
}
