use Rattle.std.proofs.Common.{◌≡◌, ◌<◌, ◌≤◌, [], length, get_or}
use Rattle.word_sim.specs.Block.{IsBlock}
use Rattle.kept_vectors.specs.Cube.{IsOfCube}
use Rattle.kept_vectors.proofs.cube.fix_cubes.Given as goal

abbrev pub invariant-loop-cube : goal.invariant-loop-cube
invariant-loop-cube l = record {
  sources : l.block.sources ≡ l.fn.block.sources;
  count : length l.block.vectors ≡ length l.fn.block.vectors;
  block : IsBlock l.block;
  from : l.from ≤ l.live;
  start : l.cube-index ≡ 0 → l.from ≡ 0;
  behind : 0 < l.cube-index → 0 < l.from;
  first : 0 < l.cube-index → IsOfCube (get_or l.cubes 0 []) (get_or l.block.vectors 0 []);
}
